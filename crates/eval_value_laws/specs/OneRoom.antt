-- The room on the stack for the elements of an array that is what one key comes to: above the members of all keys.
use Rattle.std.specs.Prelude.{◌≡◌, ℕ, suc, ◌+◌, ◌*◌, ◌≤◌}
use Rattle.std.proofs.Math.Path.{sym, ap}
use Rattle.std.proofs.Common.{◌∙◌}
use mathlib.Core.List.{List, [], ◌∷◌, reverse}
use Rattle.std.proofs.Math.Option.{Option, none, some}
use native.Mathlib.Omega.{arith}
use Rattle.std.proofs.Math.ListN.{length, length-reverse}
use Rattle.answers.specs.Ask.{value}
use Rattle.answers.specs.Theory.Sound.{clash}
use Rattle.rules.specs.Bytes.{Text}
use Rattle.rules.specs.Tree.{simple, array, object, unresolved, Elements}
use Rattle.rules.specs.Values.{scalar, array_of, object_of, Answer}
use Rattle.rules.specs.Layers.{Layer, written, settled, Counted, one, of_objects, of_other}
use Rattle.rules.specs.Settled.{Ending, no, at, Given, push, push_answer, push_node, push_layer, push_all, deeper_in, deeper_of, gather_in, gather_of}
use Rattle.rules.specs.Weights.{weight_of, weight_of_elements, weight_of_answer, weigh, elements_on}
use Rattle.theory.specs.Room.{length-weighs}
use Rattle.eval_groups.specs.Entries.{entries_of, pick, Objects, deeper-picked}
use Rattle.eval_groups.specs.Room.{Roomy, picked-weigh, weigh-turned}

-- ---- the array that counts

no-objects : (rs : List Layer) (l : Layer) → ◌≡◌ {A = Given Counted} (value (of_objects rs)) (value (one l)) → ⊥
unfolding of_objects
no-objects [] l e = clash (cc (e))
no-objects (r ∷ rs) l e = clash (cc (e))

covered : (m l : Layer) (rs : List Layer) → 1 ≤ length rs → ◌≡◌ {A = Given Counted} (value (of_other m rs)) (value (one l)) → ⊥
unfolding of_other
covered m l [] n e = absurd (omega arith)
covered m l (r ∷ rs) n e = clash (cc (e))

module _ (known : ℕ → Option Answer) where
  -- below an object nothing counts alone
  under : (ls : List Layer) (st : Ending) (above : List Layer) (l : Layer) → 1 ≤ length above → gather_in known ls st above ≡ value (one l) → ⊥
  unfolding gather_in
  under [] no above l n e = no-objects (reverse above) l e
  under [] (at b) above l n e = clash (cc (e))
  under (settled (scalar x) ∷ ls) st above l n e = covered (settled (scalar x)) l (reverse above) (omega (arith, length-reverse above)) e
  under (settled (array_of vs) ∷ ls) st above l n e = covered (settled (array_of vs)) l (reverse above) (omega (arith, length-reverse above)) e
  under (settled (object_of ms) ∷ ls) st above l n e = under ls st (settled (object_of ms) ∷ above) l (omega arith) e
  under (written (simple x) ∷ ls) st above l n e = covered (written (simple x)) l (reverse above) (omega (arith, length-reverse above)) e
  under (written (array es) ∷ ls) st above l n e = covered (written (array es)) l (reverse above) (omega (arith, length-reverse above)) e
  under (written (object fs) ∷ ls) st above l n e = under ls st (written (object fs) ∷ above) l (omega arith) e
  under (written (unresolved b ps) ∷ ls) st above l n e = under ls st above l n e

  pub one-elements : (ls : List Layer) (st : Ending) (es : Elements) → gather_in known ls st [] ≡ value (one (written (array es))) → elements_on ls ≡ es
  unfolding gather_in elements_on of_objects of_other
  one-elements [] no es e = clash (cc (e))
  one-elements [] (at b) es e = clash (cc (e))
  one-elements (settled (scalar x) ∷ ls) st es e = clash (cc (e))
  one-elements (settled (array_of vs) ∷ ls) st es e = clash (cc (e))
  one-elements (settled (object_of ms) ∷ ls) st es e = absurd (under ls st (settled (object_of ms) ∷ []) (written (array es)) (omega arith) e)
  one-elements (written (simple x) ∷ ls) st es e = clash (cc (e))
  one-elements (written (array ns) ∷ ls) st es e = cc (e)
  one-elements (written (object fs) ∷ ls) st es e = absurd (under ls st (written (object fs) ∷ []) (written (array es)) (omega arith) e)
  one-elements (written (unresolved b ps) ∷ ls) st es e = one-elements ls st es e

  -- ---- what its elements weigh

  abbrev elements_weigh : List Layer → ℕ
  elements_weigh ls = weight_of_elements known (elements_on (push_all known ls).0)

  answer-weighs : (b : ℕ) (ls : List Layer) (a : Option Answer) → length ls + 2 * elements_weigh ls ≤ 2 * weigh known ls
      → suc (length ls) + 2 * weight_of_elements known (elements_on (push_answer b a (push_all known ls)).0) ≤ 2 * (suc (weight_of_answer a) + weigh known ls)
  unfolding elements_on push_answer push weight_of
  answer-weighs b ls none ih = omega (arith, length-weighs known ls)
  answer-weighs b ls (some none) ih = omega arith
  answer-weighs b ls (some (some v)) ih = omega (arith, length-weighs known ls)

  tops-weigh : (ls : List Layer) → length ls + 2 * elements_weigh ls ≤ 2 * weigh known ls
  unfolding elements_on push_all push_layer push_node push weight_of
  tops-weigh [] = omega arith
  tops-weigh (settled v ∷ ls) = omega (arith, length-weighs known (settled v ∷ ls))
  tops-weigh (written (simple x) ∷ ls) = omega (arith, length-weighs known ls)
  tops-weigh (written (array es) ∷ ls) = omega (arith, length-weighs known ls)
  tops-weigh (written (object fs) ∷ ls) = omega (arith, length-weighs known ls)
  tops-weigh (written (unresolved b ps) ∷ ls) = answer-weighs b ls (known b) (tops-weigh ls)

  pub one-fits : (entries base : ℕ) (os : List Layer) → Objects os → Roomy known entries base os → (k : Text) (es : Elements)
      → gather_of known (deeper_of known k (push_all known os)) [] ≡ value (one (written (array es)))
      → base + length (entries_of os) + 2 * weight_of_elements known es ≤ entries
  unfolding deeper_in gather_in
  one-fits entries base os o r k es e =
      let xs = entries_of os in
      let ls = reverse (pick k xs) in
      let below = deeper_of known k (push_all known os) in
      let f : elements_on below.0 ≡ es = one-elements below.0 below.1 es e in
      let g : weight_of_elements known es ≡ elements_weigh ls =
      sym (ap (weight_of_elements known) f) ∙ ap (λ w. weight_of_elements known (elements_on w.0)) (deeper-picked known k os o) in
      let n : length ls ≡ length (pick k xs) = length-reverse (pick k xs) in
      let m : weigh known ls ≡ weigh known (pick k xs) + 0 = weigh-turned known (pick k xs) [] in
      omega (arith, g, tops-weigh ls, picked-weigh known k xs)
