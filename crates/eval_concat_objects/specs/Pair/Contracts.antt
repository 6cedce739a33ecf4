-- What merging promises.
use Rattle.std.specs.Prelude.{◌≡◌, ℕ, ◌+◌, ◌≤◌, List, length}
use Rattle.rules.specs.Bytes.{Text}
use Rattle.rules.specs.Sizes.{max_records}
use Rattle.rules.specs.Values.{Members, object_of, record_size, merge_members}
use Rattle.sheet_kept.specs.Kept.{Held, named}
use Rattle.eval_writer.specs.Clauses.{Room}
use Rattle.eval_writer.specs.Composition.{start}
use Rattle.eval_writer.specs.Copies.Contracts.{most_bytes}
use Rattle.eval_results.specs.Extents.Came.{Came}
use Rattle.eval_results.specs.Extents.Contracts.{Bounded}
use Rattle.eval_results.specs.declared.extents.Extent.{Extent}
use Rattle.doc_items.specs.Room.{capacity}
use Rattle.eval_stack.specs.Model.{entries, Work}
use Rattle.eval_stack.specs.Clauses.{PushIs}
use Rattle.eval_memory.specs.Keys.{KeyNumber, EachKey}
use Rattle.eval_memory.specs.Finished.{Stored, SettledAt}
use Rattle.eval_state.specs.Memories.{job_bytes, second_at, merge_room, pair_of}
use Rattle.eval_value_laws.specs.Clauses.{Left}

pub record MergeAsked (B w : List ℕ) (base : ℕ) (room : List ℕ) : Type 0 where
  pub whole : Room room
  pub bytes : job_bytes ≤ length B
  pub most : length B ≤ most_bytes
  pub work : Work w
  pub used : base ≤ entries

-- both are on the stack
pub record PushedIs (base : ℕ) (w w' : List ℕ) (r : ℕ) : Type 0 where
  pub between : List ℕ
  pub one : ℕ
  pub upper : PushIs base (capacity + second_at) w between one
  pub lower : PushIs one capacity between w' r
  pub left : Left base w w'
  pub low : base ≤ r
  pub high : r ≤ entries

-- the pair stands in the bytes, `upper` over `lower`, and the stack has room for it
pub record PairGiven (key : ℕ → Text) (items : ℕ) (T B : List ℕ) (base : ℕ) (upper lower : Members) : Type 0 where
  pub stored : Stored (pair_of key items T B)
  pub first : SettledAt (pair_of key items T B) (object_of lower) 0
  pub second : SettledAt (pair_of key items T B) (object_of upper) second_at
  pub lower-few : record_size (object_of lower) ≤ max_records
  pub upper-few : record_size (object_of upper) ≤ max_records
  pub fits : base + merge_room ≤ entries

-- the merged object is in the room
pub record Merged (key : ℕ → Text) (items : ℕ) (T : List ℕ) (upper lower : Members) (e : Extent) (b a : List ℕ) : Type 0 where
  pub held : Held
  pub is : named key held ≡ object_of (merge_members upper lower)
  pub keys : EachKey (KeyNumber T (items + 1)) held
  pub came : Came key held start e b a

pub record MergeIs (T B : List ℕ) (base : ℕ) (w w' : List ℕ) (r : Extent) (b a : List ℕ) : Type 0 where
  pub left : Left base w w'
  pub within : Bounded r
  pub is : (key : ℕ → Text) (items : ℕ) (upper lower : Members) → PairGiven key items T B base upper lower → Merged key items T upper lower r b a
