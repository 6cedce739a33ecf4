-- What keeping promises.
use Rattle.std.specs.Prelude.{◌≡◌, Bool, cond, not, List, ◌∷◌, ℕ, ◌+◌, ◌≤◌, ◌<◌, length, get_or, set}
use Rattle.std.proofs.Math.Option.{none, some}
use Rattle.answers.specs.Ask.{Trail}
use Rattle.rules.specs.Bytes.{Text}
use Rattle.rules.specs.Sizes.{max_nesting, max_records, max_unresolved, max_room}
use Rattle.rules.specs.Values.{Value, Answer, record_size, nesting_of}
use Rattle.rules.specs.NamedValues.{Distinct}
use Rattle.rules.specs.Sheet.{trail_size, trail_text_size}
use Rattle.rules.specs.Documents.{Setting}
use Rattle.doc_items.specs.Room.{answers_at, bytes_room}
use Rattle.sheet_kept.specs.Kept.{Held, named}
use Rattle.eval_writer.specs.Clauses.{InRoom}
use Rattle.eval_writer.specs.declared.Out.{Out}
use Rattle.eval_store.specs.Values.Contracts.{Full}
use Rattle.eval_memory.specs.Keys.{KeyNumber, EachKey}
use Rattle.eval_state.specs.Memories.{job_table, job_bytes, second_at, pair_of}
use Rattle.eval_state.specs.Values.{KeptAt}
use Rattle.eval_state.specs.State.{State}
use Rattle.eval_state.specs.Later.{Later}

-- a finished value in the room, which may be kept: its keys are the document's, each once, and it is not nested too deep
pub record Finished (key : ℕ → Text) (items : ℕ) (T room : List ℕ) (o : Out) (v : Held) : Type 0 where
  pub in-room : InRoom key v room o
  pub keys : EachKey (KeyNumber T (items + 1)) v
  pub distinct : Distinct (named key v)
  pub nesting : nesting_of (named key v) ≤ max_nesting

-- ---- answers

-- there is room for the entry's records and texts
pub record AnswerAsked (T B room : List ℕ) (o : Out) (b used t : ℕ) : Type 0 where
  pub full : Full room o
  pub number : b < max_unresolved
  pub records : used + 3 + o.rec.0 ≤ max_room
  pub texts : t + o.text.0 ≤ max_room
  pub table : job_table ≤ length T
  pub bytes : job_bytes ≤ length B

-- one number of the table changes; where a trail stands, and so much is used, it stands with one entry more
pub record AnswerIs (room : List ℕ) (o : Out) (b used t : ℕ) (T T' B B' : List ℕ) : Type 0 where
  pub table : T' ≡ set T (answers_at + b) (used + 3 + 2)
  pub kept : (x : Setting) (key : ℕ → Text) (items : ℕ) (S : Trail Answer) (v : Held) → State x key items T B S → used ≡ trail_size S → t ≡ trail_text_size S
      → Finished key items T room o v → State x key items T' B' ((b, some (named key v)) ∷ S)
  pub later : (key : ℕ → Text) (S : Trail Answer) (v : Held) → used ≡ trail_size S → t ≡ trail_text_size S → InRoom key v room o
      → Later T B S T' B' ((b, some (named key v)) ∷ S)

pub record UndefinedAsked (T : List ℕ) (b : ℕ) : Type 0 where
  pub number : b < max_unresolved
  pub table : job_table ≤ length T

pub record UndefinedIs (b : ℕ) (T T' : List ℕ) : Type 0 where
  pub table : T' ≡ set T (answers_at + b) 1
  pub kept : (x : Setting) (key : ℕ → Text) (items : ℕ) (B : List ℕ) (S : Trail Answer) → State x key items T B S → trail_size S + 3 ≤ max_room
      → State x key items T' B ((b, none) ∷ S)
  pub later : (B : List ℕ) (S : Trail Answer) → Later T B S T' B ((b, none) ∷ S)

-- ---- the pair

-- where the first or the second object begins
unfoldable pub half_of : Bool → ℕ
half_of second = cond second second_at 0

pub record HalfIs (second : Bool) (r : ℕ) : Type 0 where
  pub is : r ≡ half_of second

pub record PairAsked (B room : List ℕ) (o : Out) : Type 0 where
  pub full : Full room o
  pub bytes : job_bytes ≤ length B

-- the value stands there; the other one, and all that stands between two steps, stays. Whatever the room holds, no bytes before the pair
-- change.
pub record PairIs (room : List ℕ) (o : Out) (second : Bool) (B B' : List ℕ) : Type 0 where
  pub len : length B' ≡ length B
  pub beside : (n d : ℕ) → n < bytes_room → get_or B' n d ≡ get_or B n d
  pub kept : (key : ℕ → Text) (items : ℕ) (T : List ℕ) (v : Held) → Finished key items T room o v
      → KeptAt (pair_of key items T B') (named key v) (half_of second) (half_of second)
  pub other : (key : ℕ → Text) (items : ℕ) (T : List ℕ) (v : Held) (w : Value) → InRoom key v room o → record_size w ≤ max_records
      → KeptAt (pair_of key items T B) w (half_of (not second)) (half_of (not second)) → KeptAt (pair_of key items T B') w (half_of (not second)) (half_of (not second))
  pub state : (x : Setting) (key : ℕ → Text) (items : ℕ) (T : List ℕ) (S : Trail Answer) (v : Held) → InRoom key v room o → State x key items T B S
      → State x key items T B' S
