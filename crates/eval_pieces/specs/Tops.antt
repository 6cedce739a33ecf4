-- How far the objects go that `gather` pushes, whatever the work slice holds.
use Rattle.std.specs.Prelude.{◌≡◌, ℕ, ◌+◌, ◌-◌, ◌≤◌, Bool, true, false, cond, eqb, Some, None}
use Rattle.std.proofs.Common.{sym, ◌∙◌, arith}
use mathlib.Core.List.{List, [], ◌∷◌}
use Rattle.std.proofs.Math.ListN.{length}
use Rattle.answers.specs.Theory.Sound.{clash}
use Rattle.eval_nodes.specs.Model.{View, view_at}
use Rattle.eval_stack.specs.Model.{entries, seg, push_c}
use Rattle.eval_layers.specs.Model.{Stuck, of_end_c, gather_by, gather_c}
use Rattle.eval_layers.specs.Clauses.{GatherIs}
use Rattle.eval_layers.specs.declared.Taken.{Taken}

module _ (T R : List ℕ) (st : Stuck) (base r : ℕ) where
  chosen : (t : Bool) (x : Taken) (n m : ℕ) → (x ≡ Taken.Merged m → ⊥) → cond t x (Taken.Merged n) ≡ Taken.Merged m → m ≡ n
  chosen true x n m f e = absurd (f e)
  chosen false x n m f e = cc (e)

  ended : (s : Stuck) (n m : ℕ) → of_end_c s base n ≡ Taken.Merged m → m ≡ n
  ended (Some b) n m e = clash (cc (e))
  ended None n m e = chosen (eqb base n) Taken.Nothing n m (λ z. clash (cc (z))) e

  gather-top : (cs acc : List ℕ) (t : ℕ) → (gather_c T R st base r cs acc).0 ≡ Taken.Merged t → t ≡ base + length (gather_c T R st base r cs acc).1
  unfolding gather_c
  gather-top [] acc t e = ended st (base + length acc) t e
  gather-top (c ∷ cs) acc t e = go (view_at T R c) e (λ xs f. gather-top cs xs t f)
    where
      go : (v : View) → (gather_by T R base r acc (λ os. gather_c T R st base r cs os) c v).0 ≡ Taken.Merged t
          → ((xs : List ℕ) → (gather_c T R st base r cs xs).0 ≡ Taken.Merged t → t ≡ base + length (gather_c T R st base r cs xs).1)
          → t ≡ base + length (gather_by T R base r acc (λ os. gather_c T R st base r cs os) c v).1
      go None e ih = chosen (eqb base (base + length acc)) (Taken.One c) (base + length acc) t (λ z. clash (cc (z))) e
      go (Some m) e ih = ih (push_c c r acc) e

module _ {T R : List ℕ} {lo hi t : ℕ} {st : Stuck} {w x : List ℕ} {r : Taken} (h : GatherIs T R lo hi st w x r) (e : r ≡ Taken.Merged t) where
  top-is : t ≡ hi + length (gather_c T R st hi (entries - hi) (seg w lo (hi - lo)) []).1
  top-is = gather-top T R st hi (entries - hi) (seg w lo (hi - lo)) [] t (sym h.is.is ∙ e)

  pub gathered-low : hi ≤ t
  gathered-low = omega (arith, top-is)

  pub gathered-high : t ≤ entries
  gathered-high = omega (arith, top-is, h.is.high)
