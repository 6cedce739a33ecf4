-- The job resolve as the code does it: settle the root by levels, each missing answer worked out by turns; evaluate the root once, at
-- depth 65, which then meets no missing answer; hand back. That it is the job is shown in proofs/Whole.antt.
use Rattle.std.specs.Prelude.{ℕ, leb}
use mathlib.Core.List.{List}
use Rattle.answers.specs.Resolve.{Res, resolve}
use Rattle.rules.specs.Sizes.{max_budget}
use Rattle.rules.specs.Refusals.{Refusal}
use Rattle.rules.specs.Values.{Value, Answer}
use Rattle.rules.specs.Documents.{Setting, Input, valid, inputs}
use Rattle.rules.specs.Positions.{line_of, column_of}
use Rattle.rules.specs.Jobs.{Result, Resolved, refused_with, room_of, resolved, located}
use Rattle.theory.specs.Resolving.{root_of}
use Rattle.theory_order.specs.Clauses.{Task, questions_of, rules_of, resolution_c}

-- what the rules say of a task: the resolution, and what the job hands back
abbrev pub resolution_of : Task → Res Refusal Answer Value
resolution_of t = resolve (rules_of t) t.budget (root_of t.setting) (questions_of t)

abbrev pub resolved_of : Task → (table_room : ℕ) → Result
resolved_of t table_room = resolved t.budget t.trail_room table_room t.text_room (valid t.setting)

-- ---- any inputs

unfoldable pub resolved_c : (budget trail_room table_room text_room : ℕ) → Input Setting → Result
unfolding refused_with resolution_c
resolved_c budget trail_room table_room text_room (Input.refused y) = refused_with y
resolved_c budget trail_room table_room text_room (valid x) =
    resolution_c (record { setting = x; budget = budget; trail_room = trail_room; text_room = text_room }) table_room

unfoldable pub resolve_job_c : (document environment : List ℕ) (budget trail_length table_length text_length : ℕ) → Resolved
unfolding inputs resolved_c line_of column_of
resolve_job_c document environment budget trail_length table_length text_length =
    located document
    (resolved_c budget (room_of trail_length) (room_of table_length) (room_of text_length) (inputs (leb budget max_budget) document environment))
