-- What the resolution of a document that was read promises.
use Rattle.std.specs.Prelude.{Bool, List, ℕ, ◌≤◌, length, Result}
use Rattle.rules.specs.Sizes.{max_room}
use Rattle.rules.specs.Documents.{Setting}
use Rattle.theory_order.specs.Clauses.{Task}
use Rattle.theory_order.specs.Whole.{resolved_of}
use Rattle.text_chars.specs.declared.Refusal.{Refusal}
use Rattle.eval_writer.specs.Copies.Contracts.{most_bytes}
use Rattle.eval_state.specs.Memories.{job_bytes}
use Rattle.job_results.specs.declared.Resolution.{Resolution}
use Rattle.job_inputs.specs.Clauses.{Ready}
use Rattle.job_root.specs.Output.Contracts.{HandedBack}

-- a document that was read, in its environment, as it stands in the job's memory; buffers no longer than their rooms
pub record ResolutionAsked (T B environment : List ℕ) (budget : ℕ) (trail text : List ℕ) : Type 0 where
  pub others : Bool
  pub document : List ℕ
  pub items : ℕ
  pub setting : Setting
  pub ready : Ready others document environment T B items setting
  pub bytes : job_bytes ≤ length B
  pub most : length B ≤ most_bytes
  pub trail-room : length trail ≤ max_room
  pub text-room : length text ≤ max_room

-- what is to be resolved
abbrev pub task_of : (x : Setting) (budget : ℕ) (trail text : List ℕ) → Task
task_of x budget trail text = record { setting = x; budget = budget; trail_room = length trail; text_room = length text }

-- trail, table and text before and after
pub record ResolutionIs (T B environment : List ℕ) (budget : ℕ) (trail trail' table table' text text' : List ℕ) (r : Result Resolution Refusal) : Type 0 where
  pub is : (a : ResolutionAsked T B environment budget trail text)
      → HandedBack (resolved_of (task_of a.setting budget trail text) (length table)) trail' table' text' r
