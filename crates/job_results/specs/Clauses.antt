-- What resolve and check promise, for all bytes that they are lent: the paper's number, place and count, and every byte of the buffers. To
-- C the numbers go in 64 bits.
use Rattle.std.specs.Prelude.{◌≡◌, ℕ, ◌≤◌, List, length, Result, Err}
use Rattle.text_chars.specs.declared.Refusal.{Refusal}
use Rattle.rules.specs.Jobs.{resolve_job, Buffers, buffers_of, check_job}
use Rattle.job_results.specs.Answers.{resolution_told, located_told, resolved_told, packed_resolution, verdict_of}
use Rattle.job_results.specs.declared.Resolution.{Resolution}

-- a run of resolve: the three buffers before it (b, c, f) and after it
pub record ResolveIs (document environment : List ℕ) (budget : ℕ) (b c f b' c' f' : List ℕ) (r : Result Resolution Refusal) : Type 0 where
  pub answer : located_told document (resolution_told r)
      ≡ resolved_told (resolve_job document environment budget (length b) (length c) (length f))
  pub buffers : ◌≡◌ {A = Buffers} (record { trail = b'; table = c'; text = f' })
      (buffers_of (length b) (length c) (length f) (resolve_job document environment budget (length b) (length c) (length f)))

-- the same run as C sees it: the 64 bits of the job's answer, and every byte of the buffers
pub record PackedResolveIs (document environment : List ℕ) (budget : ℕ) (b c f b' c' f' : List ℕ) (r : ℕ) : Type 0 where
  pub answer : r ≡ packed_resolution (resolved_told (resolve_job document environment budget (length b) (length c) (length f)))
  pub buffers : ◌≡◌ {A = Buffers} (record { trail = b'; table = c'; text = f' })
      (buffers_of (length b) (length c) (length f) (resolve_job document environment budget (length b) (length c) (length f)))

-- a run of check; no refusal passes for a yes
pub record CheckIs (document environment trail table text : List ℕ) (v : Result (Unit {0}) Refusal) : Type 0 where
  pub is : verdict_of document v ≡ check_job document environment trail table text
  pub refusal : (x : Refusal) → v ≡ Err x → 1 ≤ x.number
