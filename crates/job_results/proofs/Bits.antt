-- The bits of what resolve answers hold its parts.
use Rattle.std.specs.Prelude.{List, ℕ}
use Rattle.rules.specs.Jobs.{Resolved, resolve_job}
use Rattle.job_results.specs.Answers.{resolved_told}
use Rattle.job_results.specs.Unpacking.{Unpacks, unpacks}
use Rattle.job_results.specs.Bits.{resolve-roomy}

module _ (d e : List ℕ) (budget l m n : ℕ) where
  abbrev answer : Resolved
  answer = resolve_job d e budget l m n

  pub resolve-unpacks : Unpacks (resolved_told answer)
  resolve-unpacks = unpacks (resolved_told answer) (resolve-roomy d e budget l m n)
