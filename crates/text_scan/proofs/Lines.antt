-- Runs of a comment: one law for each answer.
use mathlib.Core.Path.{◌≡◌}
use mathlib.Core.Bool.{Bool, true}
use mathlib.Core.List.{List}
use Prim.Native.Nat.{ℕ, zero, suc, ◌+◌, ◌-◌, ◌≤◌, ◌<◌, ◌^◌}
use native.Mathlib.Omega.{arith}
use mir.Syntax.{w64}
use mir.Val.{Fits}
use lib.ListN.{length, get_or}
use Rattle.rules.specs.Characters.{line_end}
use Rattle.text_chars.specs.Blocks.{BlockPasses}
use Rattle.text_chars.specs.Cursor.{cur}
use Rattle.text_scan.specs.Scan.{block_size, LineByte, AllLine, BlockIs}
use Rattle.text_scan.specs.Looks.{get_d_any}
use Rattle.text_scan.specs.Walks.{Going, going_start, going-further, going_out, line-byte}

-- ---- a block

pub block-line : {s : List ℕ} {at : ℕ} {Says : ℕ → Bool → Type 0} {r : Bool} → BlockPasses block_size Says s at r
    → ((b : ℕ) → Says b true → LineByte b) → BlockIs s at r
block-line {s} {at} k plain = record {
  fits = k.fits;
  all = λ e i l.
      let here : LineByte (get_or s (at + i) 0) = plain (get_or s (at + i) 0) (k.all e i l) in
      rw (get_d_any s (at + i) 0 256 (omega (arith, k.fits e))) at here;
}

-- ---- runs

module _ {s : List ℕ} {at : ℕ} where
  over : {p : ℕ} (n : ℕ) → p + n ≤ length s → AllLine s p n → Going line_end s at (cur p) → Going line_end s at (cur (p + n))
  over {p} zero h all g = let e : p + 0 ≡ p = omega arith in rw e g
  over {p} (suc n) h all g =
      let e : p + suc n ≡ p + n + 1 = omega arith in
      rw e (line-byte (over n (omega arith) (λ i l. all i (omega arith)) g) (omega arith) (all n (omega arith)))

  module _ {p : ℕ} {f : Bool} (g : Going line_end s at (cur p)) (b : BlockIs s p f) where
    pub run-block : f ≡ true → Going line_end s at (cur (p + block_size))
    run-block e = over block_size (b.fits e) (b.all e) g

    pub run-less : f ≡ true → length s - (p + block_size) < length s - p
    run-less e = omega (arith, b.fits e)

    pub run_fits : f ≡ true → length s < 2 ^ 64 → Fits w64 (p + block_size)
    run_fits e l = record { fits = omega (arith, b.fits e) }

  pub run-byte : {p : ℕ} {f : Bool} → Going line_end s at (cur p) → p < length s → (f ≡ true → LineByte (get_or s p 0)) → f ≡ true
      → Going line_end s at (cur (p + 1))
  run-byte {p} g h b e = line-byte g h (rw (get_d_any s p 0 256 h) at (b e))

pub ruleset runs = (arith, going_start, run-block, run-less, run_fits)

pub ruleset bytes = (arith, going_start, run-byte, going-further, going_out)
