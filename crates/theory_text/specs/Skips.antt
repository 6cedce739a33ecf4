-- `skip` ends by its test and not for want of fuel: what is asked is that every step goes forward and none is made past a bound.
use Rattle.std.specs.Prelude.{◌≡◌, Bool, true, false}
use Rattle.std.proofs.Math.Path.{refl}
use Rattle.std.proofs.Common.{◌∙◌}
use Prim.Native.Nat.{ℕ, zero, suc, ◌-◌, ◌≤◌, ◌<◌}
use native.Mathlib.Omega.{arith}
use Rattle.rules.specs.Bytes.{skip}
use Rattle.theory_text.specs.Choices.{by-test, same_test}

-- a place that a `skip` from another may come to: not before that one, and the test fails there
abbrev pub Reached : (ℕ → Bool) → ℕ → ℕ → Type 0
Reached test at place = (at ≤ place) × (test place ≡ false)

-- every step that is made goes forward, and none is made from the bound on
module _ (test : ℕ → Bool) (step : ℕ → ℕ) (bound : ℕ) (moves : (p : ℕ) → test p ≡ true → (p < bound) × (p < step p)) where
  past : (p : ℕ) → bound ≤ p → test p ≡ false
  past p h = go (test p) refl
    where
      go : (t : Bool) → test p ≡ t → t ≡ false
      go true e = absurd (omega (arith, (moves p e).0))
      go false e = refl

  pub skip-forward : (n at : ℕ) → at ≤ skip test step n at
  unfolding skip
  skip-forward zero at = omega arith
  skip-forward (suc n) at =
      by-test (λ r. at ≤ r) (test at) (λ e. omega (arith, (moves at e).1, skip-forward n (step at))) (λ e. omega arith)

  -- it goes on where the test passes
  pub skip-moves : (n at : ℕ) → 0 < n → test at ≡ true → at < skip test step n at
  unfolding skip
  skip-moves zero at h e = omega arith
  skip-moves (suc n) at h e = rw (e, skip) (omega (arith, (moves at e).1, skip-forward n (step at)))

  -- it ends by its test
  pub skip-ends : (n at : ℕ) → bound - at ≤ n → test (skip test step n at) ≡ false
  unfolding skip
  skip-ends zero at h = past at (omega arith)
  skip-ends (suc n) at h =
      by-test (λ r. test r ≡ false) (test at) (λ e. skip-ends n (step at) (omega (arith, (moves at e).0, (moves at e).1))) (λ e. e)

  pub skip-reaches : (n at : ℕ) → bound - at ≤ n → Reached test at (skip test step n at)
  skip-reaches n at h = (skip-forward n at, skip-ends n at h)

  -- more fuel than enough changes nothing
  pub skip-stable : (n m at : ℕ) → bound - at ≤ n → bound - at ≤ m → skip test step n at ≡ skip test step m at
  unfolding skip
  skip-stable zero zero at h k = refl
  skip-stable zero (suc m) at h k = rw (past at (omega arith), skip)
  skip-stable (suc n) zero at h k = rw (past at (omega arith), skip)
  skip-stable (suc n) (suc m) at h k =
      same_test (test at) (λ e. skip-stable n m (step at) (omega (arith, (moves at e).0, (moves at e).1)) (omega (arith, (moves at e).0, (moves at e).1)))
      (λ e. refl)

  first : (n at : ℕ) → test at ≡ true → skip test step (suc n) at ≡ skip test step n (step at)
  unfolding skip
  first n at e = rw (e, skip)

  -- with fuel enough it goes on where the test passes, and it stays where the test fails
  pub skip-on : (n at : ℕ) → bound - at ≤ n → test at ≡ true → skip test step n at ≡ skip test step n (step at)
  skip-on zero at h e = absurd (omega (arith, (moves at e).0))
  skip-on (suc n) at h e =
      first n at e ∙ skip-stable n (suc n) (step at) (omega (arith, (moves at e).0, (moves at e).1)) (omega (arith, (moves at e).1))

  pub skip-off : (n at : ℕ) → test at ≡ false → skip test step n at ≡ at
  unfolding skip
  skip-off zero at e = refl
  skip-off (suc n) at e = rw (e, skip)
