-- Runs: one law for each answer.
use mathlib.Core.Path.{◌≡◌, refl, subst}
use mathlib.Core.Bool.{Bool, true, false}
use mathlib.Core.List.{List}
use Prim.Native.Nat.{ℕ, ◌+◌, ◌-◌, ◌≤◌, ◌<◌, ◌^◌}
use native.Mathlib.Omega.{arith}
use mir.Syntax.{w64}
use mir.Val.{Fits}
use lib.Dec.{ltb}
use lib.ListN.{length, get_or, take}
use borrow.Author.Tests.{ltb-true, ltb-false}
use Rattle.std.proofs.Common.{length-take-le, get_or-take}
use Rattle.text_chars.specs.Blocks.{BlockPasses}
use Rattle.sheet_runs.specs.Clauses.{block_size, AllPlain, BlockIs, RunIs}

-- one byte more
plain_more : (s : List ℕ) (p q : ℕ) → AllPlain s p q → get_or s q 0 < 4 → AllPlain s p (q + 1)
plain_more s p q h k i l m = go (ltb i q) refl
  where
    go : (t : Bool) → ltb i q ≡ t → get_or s i 0 < 4
    go true e = h i l (ltb-true i q e)
    go false e = let z : q ≡ i = omega (arith, ltb-false i q e) in subst (λ (j : ℕ). get_or s j 0 < 4) z k

-- two parts, one behind the other
plain_then : (s : List ℕ) (p q r : ℕ) → AllPlain s p q → AllPlain s q r → AllPlain s p r
plain_then s p q r h k i l m = go (ltb i q) refl
  where
    go : (t : Bool) → ltb i q ≡ t → get_or s i 0 < 4
    go true e = h i l (ltb-true i q e)
    go false e = k i (ltb-false i q e) m

-- ---- a block

-- the bytes of a block before an end
pub block-records : {s : List ℕ} {at end : ℕ} {Says : ℕ → Bool → Type 0} {r : Bool} → end ≤ length s
    → BlockPasses block_size Says (take end s) at r → ((b : ℕ) → Says b true → b < 4) → BlockIs s at end r
block-records {s} {at} {end} l k low = record {
  fits = λ e. omega (arith, k.fits e, length-take-le end s l);
  all = λ e i m n.
      let j : at + (i - at) ≡ i = omega arith in
      let b : get_or (take end s) i 0 < 4 = rw j at (low (get_or (take end s) (at + (i - at)) 0) (k.all e (i - at) (omega arith))) in
      rw (get_or-take end s i 0 (omega (arith, k.fits e, length-take-le end s l))) at b;
}

-- ---- a run

module _ {s : List ℕ} {p end : ℕ} where
  pub run_none : RunIs s p end p
  run_none = record { low = omega arith; high = λ l. absurd (omega arith); inside = λ l. absurd (omega arith); plain = λ i l m. absurd (omega arith) }

  module _ {q : ℕ} (I : RunIs s p end q) (most : end ≤ length s) where
    pub run-single : q < end → get_or s q 0 < 4 → RunIs s p end (q + 1)
    run-single l k = record {
      low = omega (arith, I.low);
      high = λ m. omega arith;
      inside = λ m. omega arith;
      plain = plain_more s p q I.plain k;
    }

    pub run-block : {b : Bool} → BlockIs s q end b → b ≡ true → RunIs s p end (q + block_size)
    run-block k e =
        let f = k.fits e in
        record {
          low = omega (arith, I.low);
          high = λ m. omega arith;
          inside = λ m. omega arith;
          plain = plain_then s p q (q + block_size) I.plain (k.all e);
        }

    -- blocks behind the first ones
    pub run-then : {r : ℕ} → RunIs s q end r → RunIs s p end r
    run-then {r} k = go (ltb q r) refl
      where
        go : (t : Bool) → ltb q r ≡ t → RunIs s p end r
        go true e = record {
          low = omega (arith, I.low, k.low);
          high = λ m. k.high (ltb-true q r e);
          inside = λ m. k.inside (ltb-true q r e);
          plain = plain_then s p q r I.plain k.plain;
        }
        go false e = let z : q ≡ r = omega (arith, ltb-false q r e, k.low) in subst (RunIs s p end) z I

pub block-less : {s : List ℕ} {q end : ℕ} {b : Bool} → BlockIs s q end b → b ≡ true → end - (q + block_size) < end - q
block-less k e = let f = k.fits e in omega arith

pub block-fits : {s : List ℕ} {q end : ℕ} {b : Bool} → BlockIs s q end b → b ≡ true → end ≤ length s → length s < 2 ^ 64 → Fits w64 (q + block_size)
block-fits k e l m = record { fits = omega (arith, k.fits e) }

pub ruleset runs = (block-fits, run_none, run-single, run-block, run-then, block-less)
