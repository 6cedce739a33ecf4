-- What the characters of a run tell.
use Rattle.std.specs.Prelude.{◌≡◌, Bool, false, List, ℕ, ◌≤◌, ltb, eqb}
use Rattle.std.proofs.Common.{arith}
use Rattle.theory_text.specs.Places.{next-forward}
use Rattle.theory_text.specs.Choices.{by-test}
use Rattle.text_chars.specs.Clash.{clash}
use Rattle.text_runs.specs.Clauses.{stops, Passed, none, on}

pub record Goes (least other b : ℕ) : Type 0 where
  pub low : ltb b least ≡ false
  pub quote : eqb b 34 ≡ false
  pub rest : eqb b other ≡ false

pub goes_over : (least other b : ℕ) → stops least other b ≡ false → Goes least other b
unfolding stops
goes_over least other b =
    by-test (λ (t : Bool). t ≡ false → Goes least other b) (ltb b least) (λ e h. clash (cc)) (λ e.
    by-test (λ (t : Bool). t ≡ false → Goes least other b) (eqb b 34) (λ f h. clash (cc)) (λ f h.
    record { low = e; quote = f; rest = h }))

pub passed-forward : {least other : ℕ} {s : List ℕ} {at q : ℕ} → Passed least other s at q → at ≤ q
passed-forward none = omega arith
passed-forward {s = s} (on {p} k i g e) = omega (arith, passed-forward k, next-forward s p i, e)
