-- What writing the value of one piece promises.
use Rattle.std.specs.Prelude.{◌≡◌, ℕ, ◌+◌, ◌≤◌, List, length, Result, Ok, Err}
use Rattle.std.proofs.Math.Option.{Option, none, some}
use Rattle.std.proofs.Math.Seq.{slice}
use Rattle.answers.specs.Ask.{value, missing, refused}
use Rattle.rules.specs.Bytes.{Text}
use Rattle.rules.specs.Sizes.{max_environment}
use Rattle.rules.specs.Refusals.{placed}
use Rattle.rules.specs.Tree.{string}
use Rattle.rules.specs.Values.{Answer, scalar}
use Rattle.rules.specs.Layers.{Counted}
use Rattle.rules.specs.Settled.{Given}
use Rattle.text_chars.specs.declared.Refusal.{Refusal}
use Rattle.eval_writer.specs.Clauses.{Room}
use Rattle.eval_writer.specs.Composition.{start}
use Rattle.eval_writer.specs.Copies.Contracts.{most_bytes}
use Rattle.eval_stack.specs.Model.{entries, Work}
use Rattle.eval_layers.specs.declared.Taken.{Taken}
use Rattle.eval_memory.specs.Keys.{KeyNumber}
use Rattle.eval_results.specs.Values.Comes.{ValueThere}
use Rattle.eval_results.specs.declared.extents.Extent.{Extent}
use Rattle.eval_results.specs.declared.values.Worked.{Worked}
use Rattle.eval_state.specs.Memories.{job_bytes, answers_of}
use Rattle.eval_value_laws.specs.Clauses.{Left, TakenGiven, counted_by}
use Rattle.eval_pieces.specs.Clauses.{levels, PieceCase, Inside}
use Rattle.eval_pieces.specs.declared.Piece.{Piece}

-- ---- what is lent

pub record TextAsked (E room : List ℕ) (at n : ℕ) : Type 0 where
  pub whole : Room room
  pub environment : length E ≤ max_environment
  pub inside : at + n ≤ length E

-- the stack is used up to top
pub record ValueAsked (B w : List ℕ) (top : ℕ) (room : List ℕ) : Type 0 where
  pub whole : Room room
  pub bytes : job_bytes ≤ length B
  pub most : length B ≤ most_bytes
  pub work : Work w
  pub used : top ≤ entries

pub record PieceAsked (B E w : List ℕ) (base : ℕ) (room : List ℕ) (piece : Piece) : Type 0 where
  pub value : ValueAsked B w base room
  pub environment : length E ≤ max_environment
  pub inside : Inside base (length E) piece

-- ---- what is promised

-- what a piece alone comes to, or its refusal
abbrev pub PieceValue : Type 0
PieceValue = Result Worked Refusal

-- the rules give g, and a value is in the room from its start on
module _ (key : ℕ → Text) (items : ℕ) (T : List ℕ) (g : Given Answer) (b a : List ℕ) where
  abbrev pub ValueCase : PieceValue → Type 0
  ValueCase (Ok (Worked.Done e)) = ValueThere key (KeyNumber T (items + 1)) g start e b a
  ValueCase (Ok Worked.Undefined) = g ≡ value none
  ValueCase (Ok (Worked.Needs d)) = g ≡ missing d
  ValueCase (Err x) = (g ≡ refused (placed 9 x.place.0)) × (x.number ≡ 9)

pub record TextValueIs (E : List ℕ) (at n : ℕ) (e : Extent) (b a : List ℕ) : Type 0 where
  pub is : (key : ℕ → Text) (items : ℕ) (T : List ℕ) → ValueCase key items T (value (some (scalar (string (slice at (at + n) E))))) b a (Ok (Worked.Done e))

pub record LayersValueIs (T B : List ℕ) (top : ℕ) (taken : Taken) (w w' : List ℕ) (r : Worked) (b a : List ℕ) : Type 0 where
  pub left : Left top w w'
  pub is : (key : ℕ → Text) (items : ℕ) (known : ℕ → Option Answer) (d : ℕ) (g : Given Counted)
      → TakenGiven (answers_of key items T B) known w top levels d g taken → ValueCase key items T (counted_by known d g) b a (Ok r)

pub record PieceValueIs (T B E : List ℕ) (base : ℕ) (piece : Piece) (w w' : List ℕ) (r : PieceValue) (b a : List ℕ) : Type 0 where
  pub left : Left base w w'
  pub is : (key : ℕ → Text) (items : ℕ) (known : ℕ → Option Answer) (g : Given Answer) → PieceCase (answers_of key items T B) known E w g piece
      → ValueCase key items T g b a r
