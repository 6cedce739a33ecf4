-- Numbers that show layers: what they come to is what the rules say of the layers, and the objects that count stand on the stack.
use Rattle.std.specs.Prelude.{◌≡◌, refl, ℕ, ◌+◌, ◌-◌, ◌≤◌, ◌<◌, Some, None}
use Rattle.std.proofs.Common.{sym, ap, ◌∙◌, arith, eq-eqb, ne_eqb}
use Rattle.std.proofs.Math.Path.{subst}
use mathlib.Core.List.{List, [], ◌∷◌, reverse}
use Rattle.std.proofs.Math.Option.{Option}
use Rattle.std.proofs.Math.ListN.{length}
use Rattle.std.proofs.lemmas.List.{length-reverse}
use Rattle.answers.specs.Ask.{value, missing}
use Rattle.rules.specs.Tree.{simple, array, object, unresolved}
use Rattle.rules.specs.Values.{scalar, array_of, object_of, Answer}
use Rattle.rules.specs.Layers.{Layer, written, settled, Counted, nothing, one, merged, of_objects, of_other}
use Rattle.rules.specs.Settled.{Ending, no, at, Given, end_of, gather_in}
use Rattle.eval_nodes.specs.Model.{View, view_at}
use Rattle.eval_stack.specs.Model.{entries, seg}
use Rattle.eval_memory.specs.Finished.{Memory, Stored}
use Rattle.eval_memory.specs.Tables.{Shows, Match, match-length, match-reverse}
use Rattle.eval_memory.specs.Views.{Viewed, viewed}
use Rattle.eval_layers.specs.Model.{Stuck, of_end_c, of_other_c, gather_by, gather_c}
use Rattle.eval_layers.specs.Clauses.{TakenIs, GatherIs}
use Rattle.eval_layers.specs.Shows.{Ended, push-room}
use Rattle.eval_layers.specs.declared.Taken.{Taken}

module _ (M : Memory) where
  -- What layers come to, shown: Q says of the place up to which objects stand which objects they are.
  pub data TakenShows (Q : ℕ → List Layer → Type 0) : Taken → Given Counted → Type 0 where
    nothing-shows : TakenShows Q Taken.Nothing (value nothing)
    one-shows : {c : ℕ} {l : Layer} → Shows M c l → TakenShows Q (Taken.One c) (value (one l))
    needs-shows : {a b : ℕ} → a ≡ b → TakenShows Q (Taken.Needs a) (missing b)
    merged-shows : {top : ℕ} {os : List Layer} → Q top os → TakenShows Q (Taken.Merged top) (value (merged os))

  pub taken_more : {P Q : ℕ → List Layer → Type 0} {t : Taken} {g : Given Counted} → ((top : ℕ) (os : List Layer) → P top os → Q top os)
      → TakenShows P t g → TakenShows Q t g
  taken_more f nothing-shows = nothing-shows
  taken_more f (one-shows s) = one-shows s
  taken_more f (needs-shows e) = needs-shows e
  taken_more f (merged-shows q) = merged-shows (f _ _ q)

  -- the objects os, the last written first, were pushed from base on; acc are their numbers, the last pushed first
  abbrev pub Pushed : ℕ → List ℕ → ℕ → List Layer → Type 0
  Pushed base acc top os = (top ≡ base + length acc) × Match M (reverse acc) os

  abbrev GatherShows : ℕ → Taken × List ℕ → Given Counted → Type 0
  GatherShows base g h = TakenShows (Pushed base g.1) g.0 h

  module _ (base : ℕ) (acc : List ℕ) where
    pushed-length : (rs : List Layer) → Match M (reverse acc) rs → length acc ≡ length rs
    pushed-length rs m = sym (length-reverse acc) ∙ match-length M (reverse acc) rs m

    -- where nothing is below the objects
    objects-shown : (rs : List Layer) → Match M (reverse acc) rs → GatherShows base (of_end_c None base (base + length acc), acc) (value (of_objects rs))
    unfolding of_objects
    objects-shown [] m = let n = pushed-length [] m in rw (eq-eqb base (base + length acc) (omega arith)) nothing-shows
    objects-shown (o ∷ rs) m =
        let n = pushed-length (o ∷ rs) m in
        rw (ne_eqb base (base + length acc) (λ e. omega arith)) (merged-shows (refl, m))

    -- where a layer is below them that is no object
    other-shown : (c : ℕ) (l : Layer) (rs : List Layer) → Shows M c l → Match M (reverse acc) rs
        → GatherShows base (of_other_c c base (base + length acc), acc) (value (of_other l rs))
    unfolding of_other
    other-shown c l [] x m = let n = pushed-length [] m in rw (eq-eqb base (base + length acc) (omega arith)) (one-shows x)
    other-shown c l (o ∷ rs) x m =
        let n = pushed-length (o ∷ rs) m in
        rw (ne_eqb base (base + length acc) (λ e. omega arith)) (merged-shows (refl, m))

    module _ (os : List Layer) (m : Match M acc os) where
      over-shown : (c : ℕ) (l : Layer) → Shows M c l → GatherShows base (of_other_c c base (base + length acc), acc) (value (of_other l (reverse os)))
      over-shown c l x = other-shown c l (reverse os) x (match-reverse M acc os m)

      end-shown : (known : ℕ → Option Answer) (st : Stuck) (st' : Ending) → Ended st st'
          → GatherShows base (of_end_c st base (base + length acc), acc) (end_of known st' os)
      unfolding of_objects
      end-shown known None no e = objects-shown (reverse os) (match-reverse M acc os m)
      end-shown known None (at b) e = absurd e
      end-shown known (Some a) no e = absurd e
      end-shown known (Some a) (at b) e = needs-shows e

      -- one layer more
      layer-taken : (known : ℕ → Option Answer) (r c : ℕ) (l : Layer) (v : View) (more : List ℕ → Taken × List ℕ) (ls : List Layer) (st : Ending)
          → Viewed M v l → Shows M c l → length acc < r → GatherShows base (more (c ∷ acc)) (gather_in known ls st (l ∷ os))
          → GatherShows base (gather_by M.table M.records base r acc more c v) (gather_in known (l ∷ ls) st os)
      unfolding gather_in
      layer-taken known r c (settled (scalar x)) None more ls st y s f ih = over-shown c (settled (scalar x)) s
      layer-taken known r c (settled (scalar x)) (Some v) more ls st y s f ih = absurd y
      layer-taken known r c (settled (array_of vs)) None more ls st y s f ih = over-shown c (settled (array_of vs)) s
      layer-taken known r c (settled (array_of vs)) (Some v) more ls st y s f ih = absurd y
      layer-taken known r c (settled (object_of ms)) None more ls st y s f ih = absurd y
      layer-taken known r c (settled (object_of ms)) (Some v) more ls st y s f ih =
          subst (λ (xs : List ℕ). GatherShows base (more xs) (gather_in known ls st (settled (object_of ms) ∷ os))) (sym (push-room M c r acc f)) ih
      layer-taken known r c (written (simple x)) None more ls st y s f ih = over-shown c (written (simple x)) s
      layer-taken known r c (written (simple x)) (Some v) more ls st y s f ih = absurd y
      layer-taken known r c (written (array es)) None more ls st y s f ih = over-shown c (written (array es)) s
      layer-taken known r c (written (array es)) (Some v) more ls st y s f ih = absurd y
      layer-taken known r c (written (object fs)) None more ls st y s f ih = absurd y
      layer-taken known r c (written (object fs)) (Some v) more ls st y s f ih =
          subst (λ (xs : List ℕ). GatherShows base (more xs) (gather_in known ls st (written (object fs) ∷ os))) (sym (push-room M c r acc f)) ih
      layer-taken known r c (written (unresolved b ps)) v more ls st y s f ih = absurd s

  module _ (S : Stored M) (known : ℕ → Option Answer) (base r : ℕ) where
    -- from objects that were pushed before
    pub layers-taken : (cs : List ℕ) (ls : List Layer) (st : Stuck) (st' : Ending) (acc : List ℕ) (os : List Layer) → Match M cs ls → Ended st st'
        → Match M acc os → length acc + length cs ≤ r → GatherShows base (gather_c M.table M.records st base r cs acc) (gather_in known ls st' os)
    unfolding gather_c gather_in
    layers-taken [] [] st st' acc os m e n l = end-shown base acc os n known st st' e
    layers-taken [] (y ∷ ls) st st' acc os m e n l = absurd m
    layers-taken (c ∷ cs) [] st st' acc os m e n l = absurd m
    layers-taken (c ∷ cs) (y ∷ ls) st st' acc os m e n l =
        layer-taken base acc os n known r c y (view_at M.table M.records c) (λ xs. gather_c M.table M.records st base r cs xs) ls st'
        (viewed M S c y m.0) m.0 (omega arith) (layers-taken cs ls st st' (c ∷ acc) (y ∷ os) m.1 e (m.0, n) (omega arith))

  -- objects stand from base up to top, in the order of os
  abbrev pub ObjectsFrom : ℕ → List ℕ → ℕ → List Layer → Type 0
  ObjectsFrom base w top os = (base ≤ top) × (top ≤ entries) × Match M (reverse (seg w base (top - base))) os

  -- what `gather` and `take` promise, shown
  pub taken-shows : {base : ℕ} {w w' : List ℕ} {r : Taken} {m : Taken × List ℕ} {h : Given Counted} → TakenIs base w w' r m
      → TakenShows (Pushed base m.1) m.0 h → TakenShows (ObjectsFrom base w') r h
  taken-shows {base} {w} {w'} {r} {m} {h} x s =
      subst (λ (t : Taken). TakenShows (ObjectsFrom base w') t h) (sym x.is) (taken_more (λ top os q. go top os q) s)
    where
      go : (top : ℕ) (os : List Layer) → Pushed base m.1 top os → ObjectsFrom base w' top os
      go top os (e, n) =
          let f : top - base ≡ length m.1 = omega arith in
          let g : seg w' base (top - base) ≡ m.1 = ap (seg w' base) f ∙ x.objects in
          (omega arith, omega (arith, x.high), subst (λ (cs : List ℕ). Match M (reverse cs) os) (sym g) n)

  -- what `gather` gives for numbers that show layers
  pub gather-shows : (S : Stored M) (known : ℕ → Option Answer) {lo hi : ℕ} {st : Stuck} (st' : Ending) {w w' : List ℕ} {r : Taken} (ls : List Layer)
      → GatherIs M.table M.records lo hi st w w' r → Match M (seg w lo (hi - lo)) ls → Ended st st' → hi + length ls ≤ entries
      → TakenShows (ObjectsFrom hi w') r (gather_in known ls st' [])
  gather-shows S known {lo} {hi} {st} st' {w} {w'} {r} ls x m e l =
      let n = match-length M (seg w lo (hi - lo)) ls m in
      taken-shows x.is (layers-taken S known hi (entries - hi) (seg w lo (hi - lo)) ls st st' [] [] m e tt (omega arith))
