-- How many items of the kind of unresolved values stand before an item.
use mathlib.Core.Path.{◌≡◌, refl, ◌∙◌}
use Prim.Native.Nat.{ℕ, zero, suc, ◌+◌, ◌*◌, ◌-◌, ◌≤◌, ◌<◌}
use mathlib.Core.Bool.{Bool, true, false, cond}
use native.Mathlib.Omega.{arith}
use native.Mathlib.Numerals.{add-one}
use lib.Dec.{ltb, eqb}
use borrow.Author.Tests.{eq-eqb, ne_eqb, ltb-true, ltb-false}

unfoldable pub eights : (ℕ → ℕ) → ℕ → ℕ
eights g zero = 0
eights g (suc i) = cond (eqb (g (8 * i)) 8) (suc (eights g i)) (eights g i)

module _ (g : ℕ → ℕ) where
  pub eights-one : (i : ℕ) → g (8 * i) ≡ 8 → eights g (i + 1) ≡ suc (eights g i)
  unfolding eights
  eights-one i e = rw (add-one, eq-eqb (g (8 * i)) 8 e, eights)

  pub eights-none : (i : ℕ) → (g (8 * i) ≡ 8 → ⊥) → eights g (i + 1) ≡ eights g i
  unfolding eights
  eights-none i e = rw (add-one, ne_eqb (g (8 * i)) 8 e, eights)

  grows_one : (i : ℕ) → eights g i ≤ eights g (suc i)
  unfolding eights
  grows_one i = go (eqb (g (8 * i)) 8)
    where
      go : (t : Bool) → eights g i ≤ cond t (suc (eights g i)) (eights g i)
      go true = omega arith
      go false = omega arith

  grows-by : (d i : ℕ) → eights g i ≤ eights g (d + i)
  grows-by zero i = let e : 0 + i ≡ i = omega arith in rw e (omega arith)
  grows-by (suc d) i = let e : suc d + i ≡ suc (d + i) = omega arith in rw e (omega (arith, grows-by d i, grows_one (d + i)))

  pub eights-grow : (i j : ℕ) → i ≤ j → eights g i ≤ eights g j
  eights-grow i j l = let e : j - i + i ≡ j = omega arith in rw e at (grows-by (j - i) i)

  pub eights-less : (i j : ℕ) → g (8 * i) ≡ 8 → i < j → eights g i < eights g j
  eights-less i j e l = omega (arith, eights-one i e, eights-grow (i + 1) j (omega arith))

  -- a number is given once
  pub eights-same : (i j : ℕ) → g (8 * i) ≡ 8 → g (8 * j) ≡ 8 → eights g i ≡ eights g j → i ≡ j
  eights-same i j a b e = go (ltb i j) refl (ltb j i) refl
    where
      go : (t : Bool) → ltb i j ≡ t → (u : Bool) → ltb j i ≡ u → i ≡ j
      go true p u q = absurd (omega (arith, eights-less i j a (ltb-true i j p)))
      go false p true q = absurd (omega (arith, eights-less j i b (ltb-true j i q)))
      go false p false q = omega (arith, ltb-false i j p, ltb-false j i q)

  skips-by : (d i : ℕ) → ((k : ℕ) → i ≤ k → k < d + i → 16 ≤ g (8 * k)) → eights g (d + i) ≡ eights g i
  skips-by zero i s = let e : 0 + i ≡ i = omega arith in rw e
  skips-by (suc d) i s =
      let e : suc d + i ≡ d + i + 1 = omega arith in
      rw e (eights-none (d + i) (λ z. omega (arith, s (d + i) (omega arith) (omega arith))) ∙ skips-by d i (λ k a b. s k a (omega arith)))

  -- no piece is of that kind
  pub eights-seams : (i j : ℕ) → i ≤ j → ((k : ℕ) → i ≤ k → k < j → 16 ≤ g (8 * k)) → eights g j ≡ eights g i
  eights-seams i j l s = let e : j - i + i ≡ j = omega arith in rw e at (skips-by (j - i) i (λ k a b. s k a (omega arith)))
