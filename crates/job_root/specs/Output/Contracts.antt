-- What the end of resolve promises.
use Rattle.std.specs.Prelude.{◌≡◌, Bool, true, false, ◌&&◌, List, ℕ, ◌+◌, ◌≤◌, ◌⊎◌, leb, length, Result as Returned, Ok, Err}
use Rattle.answers.specs.Ask.{Trail}
use Rattle.answers.specs.Resolve.{answer}
use Rattle.rules.specs.Bytes.{Text}
use Rattle.rules.specs.Sizes.{max_room}
use Rattle.rules.specs.Values.{Value, Answer}
use Rattle.rules.specs.Sheet.{trail_size, trail_text_size}
use Rattle.rules.specs.Jobs.{Result, handed_back}
use Rattle.text_chars.specs.declared.Refusal.{Refusal as Refused}
use Rattle.text_chars.specs.Cursor.{doc, refusal}
use Rattle.eval_writer.specs.Clauses.{Room}
use Rattle.eval_results.specs.declared.extents.Extent.{Extent}
use Rattle.eval_results.specs.Sizes.Contracts.{within_c}
use Rattle.eval_results.specs.Sizes.Answers.{ValueIn}
use Rattle.eval_store.specs.Entries.Contracts.{TrailIs}
use Rattle.eval_trail.specs.declared.Progress.{Progress}
use Rattle.sheet_sizes.specs.declared.Sizes.{Sizes}
use Rattle.job_results.specs.Answers.{resolution_told, result_told}
use Rattle.job_results.specs.declared.Resolution.{Resolution}
use Rattle.job_inputs.specs.Buffers.Filled.{Holding}

-- ---- the tests

-- what the table and the text part have room for
unfoldable pub room_c : Extent → (texts : ℕ) → Sizes → Bool
room_c e texts room = leb e.out.rec.0 room.rec.0 && leb (texts + e.out.text.0) room.text.0

-- it is over its size, or does not fit its room
abbrev pub Judged : Extent → (texts : ℕ) → Sizes → Returned (Unit {0}) Refused → Type 0
Judged e texts room (Ok u) = (within_c e ≡ true) × (room_c e texts room ≡ true)
Judged e texts room (Err x) =
    ((x ≡ refusal 13 (doc 0)) × (within_c e ≡ false)) ⊎ ((x ≡ refusal 14 (doc 0)) × (within_c e ≡ true) × (room_c e texts room ≡ false))

pub record JudgeIs (e : Extent) (texts : ℕ) (room : Sizes) (r : Returned (Unit {0}) Refused) : Type 0 where
  pub is : Judged e texts room r

-- ---- the answer and the buffers

pub record HandAsked (room : List ℕ) (p : Progress) : Type 0 where
  pub whole : Room room
  pub texts : p.text.0 ≤ max_room

-- an answer, and buffers that begin with what it hands back
pub record HandedBack (R : Result) (trail table text : List ℕ) (r : Returned Resolution Refused) : Type 0 where
  pub told : resolution_told r ≡ result_told R
  pub holding : Holding R trail table text

-- Of the root's value in its room, and of a trail that the buffers hold: table and text before (b, x) and after (a, y).
pub record HandIs (room : List ℕ) (e : Extent) (p : Progress) (b a x y : List ℕ) (r : Returned Resolution Refused) : Type 0 where
  pub is : (key : ℕ → Text) (v : Value) (S : Trail Answer) (trail rest more : List ℕ) → ValueIn key (λ _. Unit {0}) room e v
      → p.used.0 ≡ trail_size S → p.text.0 ≡ trail_text_size S → TrailIs S trail x rest more
      → HandedBack (handed_back (length b) (length x) (answer v S p.begun)) trail a y r
  pub table_kept : length a ≡ length b
  pub text-kept : length y ≡ length x
