-- Runs: one law for each answer.
use mathlib.Core.Path.{◌≡◌, refl, sym, ◌∙◌}
use mathlib.Core.Bool.{Bool, true, false, not}
use mathlib.Core.List.{List, [], ◌∷◌}
use Prim.Native.Nat.{ℕ, zero, suc, ◌+◌, ◌-◌, ◌≤◌, ◌<◌, ◌^◌}
use native.Mathlib.Omega.{arith}
use mir.Syntax.{w64}
use mir.Val.{Fits}
use lib.Dec.{eqb}
use lib.ListN.{length, get_or}
use borrow.Author.Tests.{lt-ltb, le-ltb, eq-eqb, ne_eqb}
use Rattle.rules.specs.Bytes.{byte_at}
use Rattle.theory_text.specs.Ascii.{ascii-next}
use Rattle.text_chars.specs.Blocks.{BlockPasses}
use Rattle.text_chars.specs.Cursor.{cur, StepIs}
use Rattle.text_chars.specs.Seen.{seen}
use Rattle.text_chars.specs.Clash.{clash}
use Rattle.text_chars.specs.declared.Cursor.{Cursor}
use Rattle.std.specs.Prelude.{Option, Some, None}
use Rattle.text_chars.specs.declared.Step.{Step}
use Rattle.text_runs.specs.Clauses.{block_size, stops, Plain, Passed, none, on, AllPlain, BlockIs, RunIs, OneSays, OneIs}

-- ---- a byte

module _ (least other b : ℕ) where
  pub stop-low : b < least → true ≡ stops least other b
  unfolding stops
  stop-low h = rw (lt-ltb b least h, stops)

  pub stop-quote : least ≤ b → b ≡ 34 → true ≡ stops least other b
  unfolding stops
  stop-quote h e = rw (le-ltb b least h, eq-eqb b 34 e, stops)

  pub stop-other : least ≤ b → (b ≡ 34 → ⊥) → eqb b other ≡ stops least other b
  unfolding stops
  stop-other h n = rw (le-ltb b least h, ne_eqb b 34 n, stops)

module _ {least other b : ℕ} where
  pub plain-not : false ≡ true → Plain least other b
  plain-not e = clash (cc)

  pub plain-is : {f : Bool} → b < 128 → f ≡ stops least other b → not f ≡ true → Plain least other b
  plain-is {f} h e k = record { ascii = h; goes = sym e ∙ go f k }
    where
      go : (f : Bool) → not f ≡ true → f ≡ false
      go true k = clash (cc)
      go false k = refl

pub ruleset stopping = (stop-low, stop-quote, stop-other)

pub ruleset plains = (plain-not, plain-is)

-- ---- a block

-- a byte inside the text, whatever is said of those outside
get_d_any : (s : List ℕ) (at a b : ℕ) → at < length s → get_or s at a ≡ get_or s at b
get_d_any [] at a b h = absurd (omega arith)
get_d_any (x ∷ s) zero a b h = refl
get_d_any (x ∷ s) (suc at) a b h = get_d_any s at a b (omega arith)

pub block-plain : {least other : ℕ} {s : List ℕ} {at : ℕ} {Says : ℕ → Bool → Type 0} {r : Bool} → BlockPasses block_size Says s at r
    → ((b : ℕ) → Says b true → Plain least other b) → BlockIs least other s at r
block-plain {least} {other} {s} {at} k plain = record {
  fits = k.fits;
  all = λ e i l.
      let here : Plain least other (get_or s (at + i) 0) = plain (get_or s (at + i) 0) (k.all e i l) in
      rw (get_d_any s (at + i) 0 256 (omega (arith, k.fits e))) at here;
}

-- ---- characters passed

pub run-start : {least other : ℕ} {s : List ℕ} {c : Cursor} → RunIs least other s c.at.0 c
run-start = record { passed = none; forward = omega arith; inside = omega arith }

module _ {least other : ℕ} {s : List ℕ} {at₀ : ℕ} where
  -- plain bytes are characters of one byte each
  over : {p : ℕ} (n : ℕ) → p + n ≤ length s → AllPlain least other s p n → Passed least other s at₀ p → Passed least other s at₀ (p + n)
  over {p} zero h all k = let e : p + 0 ≡ p = omega arith in rw e k
  over {p} (suc n) h all k =
      let b = all n (omega arith) in
      let e : p + suc n ≡ p + n + 1 = omega arith in
      on (over n (omega arith) (λ i l. all i (omega arith)) k) (omega arith) b.goes (e ∙ sym (ascii-next s (p + n) (omega arith) b.ascii))

  module _ {p : ℕ} {f : Bool} (I : RunIs least other s at₀ (cur p)) (b : BlockIs least other s p f) where
    pub run-block : f ≡ true → RunIs least other s at₀ (cur (p + block_size))
    run-block e = record {
      passed = over block_size (b.fits e) (b.all e) I.passed;
      forward = omega (arith, I.forward);
      inside = omega (arith, b.fits e);
    }

    pub run-less : f ≡ true → length s - (p + block_size) < length s - p
    run-less e = omega (arith, b.fits e)

    pub run_fits : f ≡ true → length s < 2 ^ 64 → Fits w64 (p + block_size)
    run_fits e l = record { fits = omega (arith, b.fits e) }

  pub run-one : {c d : Cursor} {r : Option Cursor} → RunIs least other s at₀ c → OneIs least other s c.at.0 r → r ≡ Some d
      → RunIs least other s at₀ d
  run-one {c} {d} I o e =
      let z : OneSays least other s c.at.0 (Some d) = rw e at o.says in
      record { passed = on I.passed z.0 z.1 z.2; forward = omega (arith, I.forward, z.3); inside = omega (arith, I.inside, I.forward, z.4) }

module _ {least other : ℕ} {s : List ℕ} {at p : ℕ} where
  further : {q : ℕ} → Passed least other s at p → Passed least other s p q → Passed least other s at q
  further h none = h
  further h (on k i g e) = on (further h k) i g e

pub run_join : {least other : ℕ} {s : List ℕ} {at : ℕ} {c d : Cursor} → RunIs least other s at c → RunIs least other s c.at.0 d
    → RunIs least other s at d
run_join h k = record { passed = further h.passed k.passed; forward = omega arith; inside = omega (arith, h.inside, h.forward, k.inside, k.forward) }

pub ruleset running = (arith, run-start, run-block, run-less, run_fits)

pub ruleset joining = (arith, run-start, run-one, run_join)

-- ---- one character

module _ {least other : ℕ} {s : List ℕ} {at : ℕ} where
  pub one-not : OneIs least other s at None
  one-not = record { says = tt }

module _ (least other : ℕ) (s : List ℕ) (at : ℕ) where
  module _ (h : at < length s) {f : Bool} (e : f ≡ stops least other (get_or s at 0)) (k : f ≡ false) where
    goes : stops least other (byte_at s at) ≡ false
    goes = rw (get_d_any s at 0 256 h) at (sym e ∙ k)

    pub one-ascii : get_or s at 0 < 128 → OneIs least other s at (Some (cur (at + 1)))
    one-ascii l =
        let low : byte_at s at < 128 = rw (get_d_any s at 0 256 h) at l in
        record { says = (h, goes, sym (ascii-next s at h low), omega arith, omega arith) }

    pub one-step : {r : Option Step} {t : Step} → StepIs s at r → r ≡ Some t → OneIs least other s at (Some t.next)
    one-step t i = let z = seen t i in record { says = (h, goes, z.past, z.forward, z.inside) }

pub ruleset ones = (one-not, one-ascii, one-step)
