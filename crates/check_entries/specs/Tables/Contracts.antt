-- What the check of the table promises.
use Rattle.std.specs.Prelude.{◌≡◌, ℕ, ◌≤◌, Bool, ◌&&◌, List, leb, length}
use Rattle.answers.specs.Ask.{Trail, lookup, value, run}
use Rattle.rules.specs.Bytes.{Text}
use Rattle.rules.specs.Sizes.{max_nesting, max_records, max_text, max_room}
use Rattle.rules.specs.Values.{Answer, within_size}
use Rattle.rules.specs.Documents.{Setting}
use Rattle.rules.specs.Sheet.{trail_size, trail_text_size}
use Rattle.rules.specs.Checking.{accepted}
use Rattle.theory.specs.Entries.{root_of}
use Rattle.theory_check.specs.Steps.{CheckAt}
use Rattle.sheet_kept.specs.Kept.{Held, named}
use Rattle.eval_writer.specs.Clauses.{Room, InRoom}
use Rattle.eval_writer.specs.declared.Out.{Out}

-- A value that was evaluated, of any size: its counters tell whether it is within its size, and then it is in the room.
pub record Evaluated (key : ℕ → Text) (v : Held) (room : List ℕ) (o : Out) (deep : ℕ) : Type 0 where
  pub within : (leb deep max_nesting && leb o.rec.0 max_records && leb o.text.0 max_text) ≡ within_size (named key v)
  pub in-room : o.rec.0 ≤ max_records → o.text.0 ≤ max_text → InRoom key v room o

pub record TableAsked (room : List ℕ) (texts : ℕ) (text : List ℕ) : Type 0 where
  pub whole : Room room
  pub inside : texts ≤ length text
  pub short : length text ≤ max_room

-- behind a trail that was found right to its end, the answer is the rules'
pub record TableIs (room : List ℕ) (o : Out) (deep texts : ℕ) (table text : List ℕ) (r : Bool) : Type 0 where
  pub is : (x : Setting) (trail : List ℕ) (S : Trail Answer) (key : ℕ → Text) (v : Held) → CheckAt x trail text S → length trail ≤ trail_size S
      → texts ≡ trail_text_size S → run (lookup S) (root_of x) ≡ value (named key v) → Evaluated key v room o deep → r ≡ accepted x trail table text
