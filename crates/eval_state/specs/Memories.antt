-- The parts of a job's memory that Room (doc_items) does not name, and what stands in them as the evaluator sees it.
--
-- The table goes on behind the answers: the columns of the keys (eval_keys), then
--   begun_at         of each unresolved value a mark: whether it was begun
-- The bytes go on behind the trail's records:
--   pair_records_at   the records of two finished objects that merge, each with half of the room
--   pair_texts_at     their texts, likewise
use Rattle.std.specs.Prelude.{ℕ, ◌+◌, ◌<◌, ◌≡◌, List, take, drop}
use Rattle.rules.specs.Bytes.{Text}
use Rattle.rules.specs.Sizes.{max_records, max_room, max_unresolved}
use Rattle.doc_items.specs.Room.{text_room, sheet_at, trail_at, bytes_room}
use Rattle.eval_keys.specs.Columns.{columns_end}
use Rattle.eval_memory.specs.Finished.{Memory}

abbrev pub begun_at : ℕ
begun_at = columns_end

abbrev pub job_table : ℕ
job_table = begun_at + max_unresolved

abbrev pub pair_records_at : ℕ
pair_records_at = bytes_room

abbrev pub pair_texts_at : ℕ
pair_texts_at = pair_records_at + max_room

abbrev pub job_bytes : ℕ
job_bytes = pair_texts_at + max_room

-- the second object of the pair, in records and in texts
abbrev pub second_at : ℕ
second_at = max_records

-- what the two take on the stack, where both are within their size
abbrev pub merge_room : ℕ
merge_room = 10924

-- an unresolved value's number is its item's, and the table has a place for its answer
abbrev pub NumberIn : ℕ → ℕ → Type 0
NumberIn m b = (m ≡ b) × (b < max_unresolved)

-- Finished values whose records stand from one place on and whose texts from another; a of the table's answers are among them. So much of
-- both is in use.
abbrev pub memory_used : (key : ℕ → Text) (items : ℕ) (table bytes : List ℕ) (records-at texts-at answered filled filled-text : ℕ) → Memory
memory_used key items T B rb tb a f g = record {
  table = T;
  items = items + 1;
  key = key;
  bytes = B;
  ends = text_room;
  records-at = rb;
  texts-at = tb;
  records = take max_room (drop rb B);
  answered = a;
  filled = f;
  filled-text = g;
}

-- any part of both may be
abbrev pub memory_at : (key : ℕ → Text) (items : ℕ) (table bytes : List ℕ) (records-at texts-at answered : ℕ) → Memory
memory_at key items T B rb tb a = memory_used key items T B rb tb a max_room max_room

-- the answers
abbrev pub answers_of : (key : ℕ → Text) (items : ℕ) (table bytes : List ℕ) → Memory
answers_of key items T B = memory_at key items T B trail_at sheet_at max_unresolved

-- the two objects that merge
abbrev pub pair_of : (key : ℕ → Text) (items : ℕ) (table bytes : List ℕ) → Memory
pair_of key items T B = memory_at key items T B pair_records_at pair_texts_at 0
