-- What joining one piece asks and promises, whatever the piece comes to: a caller says by `Case` what stands for it on the stack, in the
-- tables or in the environment.
use Rattle.std.specs.Prelude.{◌≡◌, ℕ, ◌+◌, ◌≤◌, ◌<◌, true, List, length, get_or, Result, Ok, Err}
use Rattle.std.proofs.Math.Option.{Option, some}
use Rattle.answers.specs.Ask.{Trail, lookup, value, missing, refused, then}
use Rattle.rules.specs.Bytes.{Text}
use Rattle.rules.specs.Refusals.{Refusal, number_of, place_of}
use Rattle.rules.specs.Values.{Value, Answer, within_size}
use Rattle.rules.specs.NamedValues.{Distinct}
use Rattle.rules.specs.Settled.{Given}
use Rattle.rules.specs.Unresolved as rules
use Rattle.rules.specs.Documents.{Setting}
use Rattle.theory.specs.SettledAnswers.{join_piece_in}
use Rattle.text_chars.specs.declared.Refusal as own
use Rattle.doc_items.specs.Room.{capacity, bytes_room, number_bound}
use Rattle.sheet_kept.specs.Kept.{Held}
use Rattle.eval_writer.specs.Clauses.{Room}
use Rattle.eval_writer.specs.Copies.Contracts.{most_bytes}
use Rattle.eval_results.specs.Extents.Contracts.{far}
use Rattle.eval_results.specs.declared.extents.Extent.{Extent}
use Rattle.eval_results.specs.Sizes.Contracts.{within_c}
use Rattle.eval_concat.specs.Clauses.{farthest, most_count}
use Rattle.eval_concat.specs.Growth.{Below}
use Rattle.eval_concat.specs.Standing.{PieceAt, JoinIn}
use Rattle.eval_concat.specs.declared.Kind.{Kind}
use Rattle.eval_concat.specs.declared.Join.{Join}
use Rattle.eval_concat.specs.Model.{Joined}
use Rattle.eval_stack.specs.Model.{entries, Work}
use Rattle.eval_memory.specs.Keys.{KeyNumber, EachKey}
use Rattle.eval_memory.specs.Finished.{Memory}
use Rattle.eval_state.specs.Memories.{job_bytes, answers_of, merge_room}
use Rattle.eval_state.specs.State.{State}
use Rattle.eval_value_laws.specs.Clauses.{Left}
use Rattle.eval_concat.specs.Steps.Distinct.{DistinctJoin}
use Rattle.eval_concat.specs.declared.steps.JoinStep.{JoinStep}

-- ---- where the piece needed nothing

-- a step, or a refusal
abbrev pub Stepped : Type 0
Stepped = Result JoinStep own.Refusal

abbrev pub step_of : Joined → Stepped
step_of (Ok j) = Ok (JoinStep.So j)
step_of (Err e) = Err e

pub record StepOfIs (joined : Joined) (r : Stepped) : Type 0 where
  pub is : r ≡ step_of joined

-- ---- joins, whatever the tables hold

-- arrays and objects were tested
abbrev pub TestedKind : Kind → Extent → Type 0
TestedKind Kind.Blank e = Unit {0}
TestedKind Kind.Simple e = Unit {0}
TestedKind (Kind.Array count) e = within_c e ≡ true
TestedKind Kind.Object e = within_c e ≡ true

-- so far its counters go at most
pub record Steady (t c : ℕ) (j : Join) : Type 0 where
  pub below : Below t c j
  pub tested : TestedKind j.kind j.extent

-- ---- what is lent

pub record JoinAsked (B w room : List ℕ) (base i : ℕ) (j : Join) : Type 0 where
  pub whole : Room room
  pub bytes : job_bytes ≤ length B
  pub most : length B ≤ most_bytes
  pub work : Work w
  pub used : base ≤ entries
  pub item : i < capacity
  pub steady : Steady farthest most_count j

-- ---- what is given

-- Of a join in the room each key is the document's.
abbrev pub Good : (T : List ℕ) (items : ℕ) → Held → Type 0
Good T items = EachKey (KeyNumber T (items + 1))

-- the join J stands in the room, and g is what the rules give for the piece at item i
pub record StepGiven (x : Setting) (key : ℕ → Text) (items : ℕ) (T B : List ℕ) (S : Trail Answer) (base i place : ℕ) (gap : Text) (j : Join)
    (room : List ℕ) (J : rules.Join) (g : Given Answer) : Type 0 where
  pub state : State x key items T B S
  pub join : JoinIn key (Good T items) j room J
  pub distinct : DistinctJoin J
  pub at : PieceAt T B i place gap
  pub own : (v : Value) → g ≡ value (some v) → within_size v ≡ true → Distinct v
  pub fits : base + merge_room ≤ entries

-- ---- what is promised

-- a refusal's number and place
pub record RefusedWith {A : Type 0} (g : Given A) (number place : ℕ) : Type 0 where
  pub refusal : Refusal
  pub is : g ≡ refused refusal
  pub its-number : number ≡ number_of refusal
  pub its-place : place ≡ place_of refusal

module _ (key : ℕ → Text) (P : Held → Type 0) where
  pub record JoinDone (room : List ℕ) (g : Given rules.Join) (j : Join) : Type 0 where
    pub join : rules.Join
    pub is : g ≡ value join
    pub stands : JoinIn key P j room join
    pub distinct : DistinctJoin join

  -- document 01's numbers for each case of an answer
  abbrev pub StepCase : List ℕ → Given rules.Join → Stepped → Type 0
  StepCase room g (Ok (JoinStep.So j)) = JoinDone room g j
  StepCase room g (Ok (JoinStep.Needs d)) = g ≡ missing d
  StepCase room g (Err e) = RefusedWith g e.number e.place.0

-- The stack below base stays, and so does all that stands between two steps: of the bytes only those of the two objects that merge change,
-- and the room keeps its length. Each piece adds no more than so much to the join's counters.
pub record JoinStepIs (T : List ℕ) (base i : ℕ) (j : Join) (Case : Memory → (ℕ → Option Answer) → Given Answer → Type 0)
    (w w' B B' b a : List ℕ) (r : Stepped) : Type 0 where
  pub left : Left base w w'
  pub bytes : length B' ≡ length B
  pub beside : (n d : ℕ) → n < bytes_room → get_or B' n d ≡ get_or B n d
  pub whole : Room a
  pub grows : (k : Join) → r ≡ Ok (JoinStep.So k) → (t c : ℕ) → Below t c j → Steady (t + number_bound) (c + far) k
  pub is : (x : Setting) (key : ℕ → Text) (items : ℕ) (S : Trail Answer) (place : ℕ) (gap : Text) (J : rules.Join) (g : Given Answer)
      → StepGiven x key items T B S base i place gap j b J g → Case (answers_of key items T B) (lookup S) g
      → State x key items T B' S × StepCase key (Good T items) a (then g (λ v. join_piece_in place gap v J)) r
