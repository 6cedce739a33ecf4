-- What joining an object piece asks and promises, a step at a time.
use Rattle.std.specs.Prelude.{◌≡◌, ℕ, ◌+◌, ◌≤◌, ◌<◌, true, List, length, Ok}
use Rattle.std.proofs.Math.Option.{none, some}
use Rattle.answers.specs.Ask.{Trail, value, then}
use Rattle.rules.specs.Bytes.{Text}
use Rattle.rules.specs.Sizes.{max_records}
use Rattle.rules.specs.Values.{Value, Answer, object_of, Members, record_size, within_size, merge_members}
use Rattle.rules.specs.NamedValues.{Distinct, DistinctMembers}
use Rattle.rules.specs.Settled.{Given}
use Rattle.rules.specs.Unresolved as rules
use Rattle.rules.specs.Documents.{Setting}
use Rattle.theory.specs.SettledAnswers.{join_piece_in}
use Rattle.doc_items.specs.Room.{capacity}
use Rattle.eval_writer.specs.Clauses.{Room}
use Rattle.eval_writer.specs.Composition.{start}
use Rattle.eval_writer.specs.Copies.Contracts.{most_bytes}
use Rattle.eval_results.specs.declared.extents.Extent.{Extent}
use Rattle.eval_results.specs.Sizes.Contracts.{within_c}
use Rattle.eval_results.specs.Sizes.Answers.{ValueIn}
use Rattle.eval_concat.specs.Model.{Joined, join, tested_c}
use Rattle.eval_concat.specs.Standing.{PieceAt, JoinIn, JoinedIs}
use Rattle.eval_concat.specs.declared.Kind.{Kind}
use Rattle.eval_concat.specs.declared.Join.{Join}
use Rattle.eval_stack.specs.Model.{entries, Work}
use Rattle.eval_memory.specs.Keys.{KeyNumber}
use Rattle.eval_results.specs.Values.Comes.{Comes}
use Rattle.eval_results.specs.declared.values.Worked.{Worked}
use Rattle.eval_state.specs.Memories.{job_bytes, pair_of, merge_room}
use Rattle.eval_state.specs.Values.{KeptAt}
use Rattle.eval_state.specs.State.{State}
use Rattle.eval_value_laws.specs.Clauses.{Left}
use Rattle.eval_concat.specs.Steps.Distinct.{DistinctJoin}
use Rattle.eval_concat.specs.Steps.Contracts.{Stepped, TestedKind, Good, StepCase}
use Rattle.eval_concat.specs.declared.steps.JoinStep.{JoinStep}
use Rattle.eval_concat_objects.specs.Beside.{Beside}

-- ---- the join is kept

pub record KeepAsked (B room : List ℕ) (j : Join) : Type 0 where
  pub whole : Room room
  pub bytes : job_bytes ≤ length B
  pub tested : TestedKind j.kind j.extent

-- an object is the first of the pair
pub record KeptIs (room : List ℕ) (j : Join) (B B' : List ℕ) : Type 0 where
  pub beside : Beside B B'
  pub first : (key : ℕ → Text) (items : ℕ) (T : List ℕ) (ms : Members) → j.kind ≡ Kind.Object
      → ValueIn key (Good T items) room j.extent (object_of ms) → DistinctMembers ms → KeptAt (pair_of key items T B') (object_of ms) 0 0

-- ---- the piece goes over it

pub record OverAsked (B w : List ℕ) (base : ℕ) (room : List ℕ) (piece : Extent) : Type 0 where
  pub whole : Room room
  pub bytes : job_bytes ≤ length B
  pub most : length B ≤ most_bytes
  pub work : Work w
  pub used : base ≤ entries
  pub small : within_c piece ≡ true

-- the piece is in the room, `lower` is kept
pub record OverGiven (x : Setting) (key : ℕ → Text) (items : ℕ) (T B : List ℕ) (S : Trail Answer) (base : ℕ) (piece : Extent) (room : List ℕ)
    (upper lower : Members) : Type 0 where
  pub state : State x key items T B S
  pub value : ValueIn key (Good T items) room piece (object_of upper)
  pub distinct : DistinctMembers upper
  pub first : KeptAt (pair_of key items T B) (object_of lower) 0 0
  pub few : record_size (object_of lower) ≤ max_records
  pub fits : base + merge_room ≤ entries

pub record OverIs (T : List ℕ) (base : ℕ) (piece : Extent) (w w' B B' b a : List ℕ) (r : Joined) : Type 0 where
  pub left : Left base w w'
  pub beside : Beside B B'
  pub whole : Room a
  pub extent : Extent
  pub tested : r ≡ tested_c (join Kind.Object extent)
  pub is : (x : Setting) (key : ℕ → Text) (items : ℕ) (S : Trail Answer) (upper lower : Members)
      → OverGiven x key items T B S base piece b upper lower → ValueIn key (Good T items) a extent (object_of (merge_members upper lower))

-- ---- the piece that was written

pub record PieceAsked (B w room : List ℕ) (base i : ℕ) : Type 0 where
  pub whole : Room room
  pub bytes : job_bytes ≤ length B
  pub most : length B ≤ most_bytes
  pub work : Work w
  pub used : base ≤ entries
  pub item : i < capacity

-- The object `ns` is in the room. The join J stood in another; where it is an object it is kept.
pub record PieceGiven (x : Setting) (key : ℕ → Text) (items : ℕ) (T B : List ℕ) (S : Trail Answer) (base i place : ℕ) (gap : Text) (j : Join)
    (piece : Extent) (room : List ℕ) (J : rules.Join) (ns : Members) : Type 0 where
  pub state : State x key items T B S
  pub old : List ℕ
  pub join : JoinIn key (Good T items) j old J
  pub texts : List ℕ
  pub at : PieceAt T texts i place gap
  pub value : ValueIn key (Good T items) room piece (object_of ns)
  pub own : within_size (object_of ns) ≡ true → DistinctMembers ns
  pub first : (ms : Members) → J ≡ rules.joined_object ms → KeptAt (pair_of key items T B) (object_of ms) 0 0
  pub fits : base + merge_room ≤ entries

pub record PieceJoinedIs (T : List ℕ) (base i : ℕ) (j : Join) (piece : Extent) (w w' B B' b a : List ℕ) (r : Joined) : Type 0 where
  pub left : Left base w w'
  pub beside : Beside B B'
  pub whole : Room a
  pub object : (k : Join) → r ≡ Ok k → (k.kind ≡ Kind.Object) × (within_c k.extent ≡ true)
  pub is : (x : Setting) (key : ℕ → Text) (items : ℕ) (S : Trail Answer) (place : ℕ) (gap : Text) (J : rules.Join) (ns : Members)
      → PieceGiven x key items T B S base i place gap j piece b J ns → JoinedIs key (Good T items) a (join_piece_in place gap (some (object_of ns)) J) r

-- ---- what the objects came to

-- By the rules they come to g, an object where it is defined; the room was another before, and the join J stood there.
pub record WorkedGiven (x : Setting) (key : ℕ → Text) (items : ℕ) (T B : List ℕ) (S : Trail Answer) (base i place : ℕ) (gap : Text) (j : Join)
    (worked : Worked) (room : List ℕ) (J : rules.Join) (g : Given Answer) : Type 0 where
  pub state : State x key items T B S
  pub old : List ℕ
  pub whole : Room old
  pub join : JoinIn key (Good T items) j old J
  pub distinct : DistinctJoin J
  pub texts : List ℕ
  pub at : PieceAt T texts i place gap
  pub comes : Comes key (KeyNumber T (items + 1)) g start worked old room
  pub object : (v : Value) → g ≡ value (some v) → (ns : Members) × (v ≡ object_of ns)
  pub defined : g ≡ value none → ⊥
  pub own : (v : Value) → g ≡ value (some v) → within_size v ≡ true → Distinct v
  pub first : (ms : Members) → J ≡ rules.joined_object ms → KeptAt (pair_of key items T B) (object_of ms) 0 0
  pub fits : base + merge_room ≤ entries

pub record WorkedJoinedIs (T : List ℕ) (base i : ℕ) (j : Join) (worked : Worked) (w w' B B' b a : List ℕ) (r : Stepped) : Type 0 where
  pub left : Left base w w'
  pub beside : Beside B B'
  pub whole : Room a
  pub object : (k : Join) → r ≡ Ok (JoinStep.So k) → (k.kind ≡ Kind.Object) × (within_c k.extent ≡ true)
  pub is : (x : Setting) (key : ℕ → Text) (items : ℕ) (S : Trail Answer) (place : ℕ) (gap : Text) (J : rules.Join) (g : Given Answer)
      → WorkedGiven x key items T B S base i place gap j worked b J g → StepCase key (Good T items) a (then g (λ v. join_piece_in place gap v J)) r
