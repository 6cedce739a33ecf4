-- The verdict of check in its 64 bits.
use mathlib.Core.Path.{◌≡◌, ◌∙◌, ap}
use Prim.Native.Nat.{ℕ}
use mathlib.Core.List.{List}
use Rattle.std.specs.Prelude.{Result}
use Rattle.rules.specs.Jobs.{check_job}
use Rattle.text_chars.specs.declared.Refusal.{Refusal}
use Rattle.job_results.specs.Answers.{verdict_of, packed_verdict, PackableVerdict}
use Rattle.job_results.specs.Unpacking.{packable-verdict}
use Rattle.job_results.specs.Bits.{check-roomy, check-short}
use Rattle.job_results.specs.Clauses.{CheckIs}

module _ {document environment trail table text : List ℕ} {v : Result (Unit {0}) Refusal} (C : CheckIs document environment trail table text v) where
  pub verdict-packable : PackableVerdict document v
  verdict-packable =
      packable-verdict document v (rw C.is (check-roomy document environment trail table text))
      (rw C.is (check-short document environment trail table text))

  pub verdict-packed : {r : ℕ} → r ≡ packed_verdict (verdict_of document v)
      → r ≡ packed_verdict (check_job document environment trail table text)
  verdict-packed e = e ∙ ap packed_verdict C.is

pub ruleset verdicts = (verdict-packable, verdict-packed)
