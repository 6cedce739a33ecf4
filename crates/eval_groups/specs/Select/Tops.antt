-- How far the objects go that `take` pushes, whatever the work slice holds.
use Rattle.std.specs.Prelude.{◌≡◌, ℕ, ◌+◌, ◌-◌, ◌≤◌, Bool, true, false, cond, eqb}
use Rattle.std.proofs.Common.{sym, ◌∙◌, arith}
use mathlib.Core.List.{List, [], ◌∷◌}
use Rattle.std.proofs.Math.ListN.{length}
use Rattle.answers.specs.Theory.Sound.{clash}
use Rattle.eval_stack.specs.Model.{entries, link_at, push_c}
use Rattle.eval_layers.specs.declared.Taken.{Taken}
use Rattle.eval_groups.specs.Model.{chain_c}
use Rattle.eval_groups.specs.Select.Model.{seen_at, take_by, take_c}
use Rattle.eval_groups.specs.Select.Contracts.{TakeIs}
use Rattle.eval_groups.specs.declared.select.Seen.{Seen}

module _ (T R : List ℕ) (base r : ℕ) where
  chosen : (t : Bool) (x : Taken) (n m : ℕ) → (x ≡ Taken.Merged m → ⊥) → cond t x (Taken.Merged n) ≡ Taken.Merged m → m ≡ n
  chosen true x n m f e = absurd (f e)
  chosen false x n m f e = cc (e)

  take-top : (cs acc : List ℕ) (t : ℕ) → (take_c T R base r cs acc).0 ≡ Taken.Merged t → t ≡ base + length (take_c T R base r cs acc).1
  unfolding take_c
  take-top [] acc t e = chosen (eqb base (base + length acc)) Taken.Nothing (base + length acc) t (λ z. clash (cc (z))) e
  take-top (c ∷ cs) acc t e = go (seen_at T R c) e (λ xs f. take-top cs xs t f)
    where
      go : (s : Seen) → (take_by base r acc (λ os. take_c T R base r cs os) s).0 ≡ Taken.Merged t
          → ((xs : List ℕ) → (take_c T R base r cs xs).0 ≡ Taken.Merged t → t ≡ base + length (take_c T R base r cs xs).1)
          → t ≡ base + length (take_by base r acc (λ os. take_c T R base r cs os) s).1
      go Seen.Undefined e ih = ih acc e
      go (Seen.Missing b) e ih = clash (cc (e))
      go (Seen.Other d) e ih = chosen (eqb base (base + length acc)) (Taken.One d) (base + length acc) t (λ z. clash (cc (z))) e
      go (Seen.Object d) e ih = ih (push_c d r acc) e

module _ {T R : List ℕ} {first top hi : ℕ} {w x : List ℕ} {r : Taken} (h : TakeIs T R first top w x r) (e : r ≡ Taken.Merged hi) where
  pub taken-low : top ≤ hi
  taken-low = omega (arith, take-top T R top (entries - top) (chain_c w top (link_at w first)) [] hi (sym h.is.is ∙ e))

  pub taken-high : hi ≤ entries
  taken-high = omega (arith, take-top T R top (entries - top) (chain_c w top (link_at w first)) [] hi (sym h.is.is ∙ e), h.is.high)
