-- One law for each answer of the test of a block.
use Rattle.std.specs.Prelude.{◌≡◌, refl, ℕ, ◌+◌, ◌-◌, ◌≤◌, ◌<◌, Bool, true, false, ◌&&◌, List, ltb, length, get_or}
use Rattle.std.proofs.Common.{arith, ltb-true, ltb-false}
use Rattle.text_chars.specs.Blocks.{BlockPasses}
use Rattle.text_chars.specs.Clash.{clash}

-- what the loop keeps: so many bytes from a place on pass
pub record Passing (Says : ℕ → Bool → Type 0) (s : List ℕ) (at n : ℕ) (r : Bool) : Type 0 where
  pub all : r ≡ true → (i : ℕ) → i < n → Says (get_or s (at + i) 0) true

module _ {Says : ℕ → Bool → Type 0} {s : List ℕ} {at : ℕ} where
  pub passing-start : Passing Says s at 0 true
  passing-start = record { all = λ e i k. absurd (omega arith) }

  pub passing-more : {n : ℕ} {p q : Bool} → Passing Says s at n p → Says (get_or s (at + n) 0) q → Passing Says s at (n + 1) (p && q)
  passing-more {n} {p} {q} I h = both p q I h
    where
      upto : Passing Says s at n true → Says (get_or s (at + n) 0) true → (i : ℕ) → i < n + 1 → (t : Bool) → ltb i n ≡ t
          → Says (get_or s (at + i) 0) true
      upto I h i k true f = I.all refl i (ltb-true i n f)
      upto I h i k false f = let last : n ≡ i = omega (arith, ltb-false i n f) in rw last at h

      both : (p q : Bool) → Passing Says s at n p → Says (get_or s (at + n) 0) q → Passing Says s at (n + 1) (p && q)
      both false q I h = record { all = λ e i k. clash (cc) }
      both true false I h = record { all = λ e i k. clash (cc) }
      both true true I h = record { all = λ e i k. upto I h i k (ltb i n) refl }

  pub block_none : {n : ℕ} → BlockPasses n Says s at false
  block_none = record { fits = λ e. clash (cc); all = λ e. clash (cc) }

  pub block-done : {n i : ℕ} {r : Bool} → n ≤ length s - at → at ≤ length s → Passing Says s at i r → n ≤ i → BlockPasses n Says s at r
  block-done h l I k = record { fits = λ e. omega arith; all = λ e j m. I.all e j (omega arith) }

pub ruleset passes = (arith, passing-start, passing-more, block_none, block-done)
