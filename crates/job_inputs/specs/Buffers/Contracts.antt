-- What the ends of the output buffers promise, by the rules' `filled`.
use Rattle.std.specs.Prelude.{◌≡◌, ℕ, List, length, take, Result}
use Rattle.rules.specs.Jobs.{filled}
use Rattle.job_results.specs.Answers.{resolution_told}
use Rattle.text_chars.specs.declared.Refusal.{Refusal}
use Rattle.job_results.specs.declared.Resolution.{Resolution}
use Rattle.job_inputs.specs.declared.buffers.Used.{Used}

-- a buffer of any length, before (b) and after (a): what is used stays, and behind it all is zero
pub record ClearedIs (used : ℕ) (b a : List ℕ) : Type 0 where
  pub is : a ≡ filled (length b) (take used b)

-- the lengths that an answer tells
pub record UsedIs (r : Result Resolution Refusal) (u : Used) : Type 0 where
  pub trail : u.trail.0 ≡ (resolution_told r).trail
  pub table : u.table.0 ≡ (resolution_told r).table
  pub text : u.text.0 ≡ (resolution_told r).text

-- the three buffers before (b, c, d) and after
pub record FinishedIs (r : Result Resolution Refusal) (b c d b' c' d' : List ℕ) : Type 0 where
  pub trail : ClearedIs (resolution_told r).trail b b'
  pub table : ClearedIs (resolution_told r).table c c'
  pub text : ClearedIs (resolution_told r).text d d'
