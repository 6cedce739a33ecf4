-- One member down a group: laws for `descend`, one for each return.
use Rattle.std.specs.Prelude.{Some, None}
use mathlib.Core.Path.{◌≡◌, refl, sym, ap, ◌∙◌}
use mathlib.Core.List.{List, [], ◌∷◌}
use Prim.Native.Nat.{ℕ, ◌+◌, ◌-◌, ◌≤◌, ◌<◌}
use native.Mathlib.Omega.{arith}
use lib.ListN.{length}
use Rattle.doc_items.specs.Room.{number_bound}
use Rattle.answers.specs.Theory.Sound.{clash}
use Rattle.eval_nodes.specs.declared.answer.Answered.{Answered}
use Rattle.eval_nodes.specs.Model.{View, answered_at, view_at}
use Rattle.eval_nodes.specs.Clauses.{AnsweredIs}
use Rattle.eval_nodes.specs.Members.{layer-small}
use Rattle.eval_stack.specs.Model.{entries, Work, code_at, link_at, seg, seg-length, push_c}
use Rattle.eval_stack.specs.Clauses.{CodeIs, PushIs, Same, Grew}
use Rattle.eval_stack.specs.Pushes.{same-link, push-grows}
use Rattle.eval_layers.specs.Model.{of_end_c, of_other_c}
use Rattle.eval_layers.specs.declared.Taken.{Taken}
use Rattle.eval_groups.specs.Model.{chain_at}
use Rattle.eval_groups.specs.Chains.{chain-some, chain-last, chain_more}
use Rattle.eval_groups.specs.Select.Model.{view_seen, layer_seen, answer_seen, seen_at, take_by, take_c}
use Rattle.eval_groups.specs.Select.Contracts.{SeenIs, Followed, FollowIs, Descended, DescentIs}
use Rattle.eval_groups.specs.declared.select.Seen.{Seen}
use Rattle.eval_groups.specs.declared.select.Descent.{Descent}

module _ {T R : List ℕ} {base : ℕ} {w : List ℕ} {top q c : ℕ} (x : CodeIs w q c) {v : Seen} (h : SeenIs T R c v) (low : base ≤ top) (high : top ≤ entries) where
  -- the members below this one
  here : (rest : List ℕ) → chain_at w q ≡ code_at w q ∷ rest
      → take_c T R base (entries - base) (chain_at w q) (seg w base (top - base))
      ≡ take_by base (entries - base) (seg w base (top - base)) (λ os. take_c T R base (entries - base) rest os) v
  unfolding take_c
  here rest e =
      let r = entries - base in
      let acc = seg w base (top - base) in
      ap (λ (l : List ℕ). take_c T R base r l acc) e
      ∙ sym (ap (λ (d : ℕ). take_c T R base r (d ∷ rest) acc) x.is)
      ∙ sym (ap (take_by base r acc (λ os. take_c T R base r rest os)) h.is)

  ends_at : base + length (seg w base (top - base)) ≡ top
  ends_at = omega (arith, seg-length w base (top - base))

  stopped : {y : Taken} → take_c T R base (entries - base) (chain_at w q) (seg w base (top - base)) ≡ (y, seg w base (top - base))
      → DescentIs T R base w top q w (Descent.End y)
  stopped e = record {
    is = (seg w base (top - base), e, ap (seg w base) (seg-length w base (top - base)), omega (arith, seg-length w base (top - base)));
    same = λ i o. refl;
    len = refl;
  }

  pub descend-missing : {b : ℕ} → v ≡ Seen.Missing b → DescentIs T R base w top q w (Descent.End (Taken.Needs b))
  descend-missing {b} e =
      let k = chain-some w q in
      let by = take_by base (entries - base) (seg w base (top - base)) (λ os. take_c T R base (entries - base) k.0 os) in
      stopped (here k.0 k.1 ∙ ap by e)

  pub descend-other : {d : ℕ} {y : Taken} → v ≡ Seen.Other d → y ≡ of_other_c d base top → DescentIs T R base w top q w (Descent.End y)
  descend-other {d} {y} e f =
      let k = chain-some w q in
      let acc = seg w base (top - base) in
      let by = take_by base (entries - base) acc (λ os. take_c T R base (entries - base) k.0 os) in
      let g : of_other_c d base (base + length acc) ≡ y = ap (of_other_c d base) ends_at ∙ sym f in
      stopped (here k.0 k.1 ∙ ap by e ∙ (λ i. (g i, acc)))

  -- the objects so far, after this member
  module _ (w' : List ℕ) {t : ℕ} (same : Same base w w') (len : length w' ≡ length w) (low' : base ≤ t) (high' : t ≤ entries)
      (went : (rest : List ℕ) → take_by base (entries - base) (seg w base (top - base)) (λ os. take_c T R base (entries - base) rest os) v
      ≡ take_c T R base (entries - base) rest (seg w' base (t - base))) where
    link : link_at w q ≡ link_at w' q
    link = sym (same-link w w' same q)

    followed : (d : Descent) → Followed w' base t q d → Descended T R base w top q w' d
    unfolding take_c
    followed (Descent.More u n) (e, f, l) =
        let m : n ≡ link_at w q = f ∙ sym link in
        rw e (here (chain_at w n) (chain_more w q n (sym m) l) ∙ went (chain_at w n), l, low', high')
    followed (Descent.End y) (l, e) =
        let acc = seg w' base (t - base) in
        let n : length acc ≡ t - base = seg-length w' base (t - base) in
        let k : base + length acc ≡ t = omega arith in
        let g : of_end_c None base (base + length acc) ≡ y = ap (of_end_c None base) k ∙ sym e in
        (acc, here [] (chain-last w q (rw link l)) ∙ went [] ∙ (λ i. (g i, acc)), ap (seg w' base) n, omega arith)

    follows_on : {d : Descent} → FollowIs w' base t q d → DescentIs T R base w top q w' d
    follows_on {d} f = record { is = followed d f.is; same = same; len = len }

  pub descend-undefined : {d : Descent} → v ≡ Seen.Undefined → FollowIs w base top q d → DescentIs T R base w top q w d
  descend-undefined e f =
      follows_on w (λ i o. refl) refl low high
      (λ rest. ap (take_by base (entries - base) (seg w base (top - base)) (λ os. take_c T R base (entries - base) rest os)) e) f

  pub descend-object : {b : ℕ} {w' : List ℕ} {t : ℕ} {d : Descent} → v ≡ Seen.Object b → Work w → PushIs top b w w' t → FollowIs w' base t q d
      → DescentIs T R base w top q w' d
  descend-object {b} {w'} {t} {d} e k p f =
      let g : Grew base w top (push_c b) w' t = push-grows low high k p in
      follows_on w' g.same g.len g.low g.high
      (λ rest. ap (take_by base (entries - base) (seg w base (top - base)) (λ os. take_c T R base (entries - base) rest os)) e
      ∙ ap (take_c T R base (entries - base) rest) (sym g.list)) f

-- an object's number fits, as the member's does
pub object-small : {T R : List ℕ} {c d : ℕ} {v : Seen} → SeenIs T R c v → v ≡ Seen.Object d → c < number_bound → d < number_bound
unfolding seen_at layer_seen
object-small {T} {R} {c} {d} {v} h e l = go (answered_at T c) refl (sym h.is ∙ e)
  where
    by : (b : ℕ) (u : View) → view_seen b u ≡ Seen.Object d → b ≡ d
    by b None f = clash (cc)
    by b (Some m) f = cc

    go : (a : Answered) → answered_at T c ≡ a → answer_seen T R a ≡ Seen.Object d → d < number_bound
    go (Answered.Layer b) q f =
        let a : AnsweredIs T c (Answered.Layer b) = record { is = sym q } in
        let s : b < number_bound = layer-small a refl l in
        omega (arith, by b (view_at T R b) f)
    go Answered.Undefined q f = clash (cc)
    go (Answered.Missing b) q f = clash (cc)

pub ruleset descents = (object-small, descend-missing, descend-other, descend-undefined, descend-object)
