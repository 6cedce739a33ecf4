-- What looking ahead promises. Needs are those of the theory (Skeletons); a position among the pieces is eval_unresolved's `Behind`.
use Rattle.std.specs.Prelude.{◌≡◌, ℕ, ◌+◌, ◌≤◌, ◌<◌, Bool, true, List, Some, None}
use Rattle.std.specs.declared.option.Option.{Option as Maybe}
use Rattle.std.proofs.Math.Option.{Option}
use Rattle.answers.specs.Ask.{Trail, lookup, missing}
use Rattle.rules.specs.Bytes.{Text}
use Rattle.rules.specs.Tree.{Pieces, no_pieces}
use Rattle.rules.specs.Values.{Answer}
use Rattle.rules.specs.Settled.{Given}
use Rattle.rules.specs.Unresolved.{Unresolved}
use Rattle.rules.specs.Documents.{Setting}
use Rattle.theory_order.specs.Skeletons.{rest_of, needs_of, needs_of_all}
use Rattle.theory_order.specs.Looking.{piece_in}
use Rattle.doc_items.specs.Room.{capacity}
use Rattle.eval_stack.specs.Model.{entries}
use Rattle.eval_state.specs.Memories.{answers_of}
use Rattle.eval_writer.specs.Clauses.{Room}
use Rattle.eval_value_laws.specs.Clauses.{Left}
use Rattle.eval_pieces.specs.Clauses.{PieceCase}
use Rattle.eval_pieces.specs.declared.Piece.{Piece}
use Rattle.eval_pieces.specs.Cursor.Contracts.{end_c}
use Rattle.eval_question_laws.specs.Clauses.{Asked, Questioned}
use Rattle.eval_unresolved.specs.Pieces.Contracts.{Behind}
use Rattle.eval_ahead.specs.declared.Awaited.{Awaited}

-- ---- where the looking begins

-- at the pieces that are left there; what they need is what is looked for in the question
pub record Starts (x : Setting) (u : Unresolved) (T : List ℕ) (item r : ℕ) : Type 0 where
  pub rest : Pieces
  pub behind : Behind T (item + 1) u.pieces r rest
  pub needs : needs_of x.document.root x.environment u.openness rest ≡ needs_of_all x.document.root x.environment u.openness u.pieces

pub record FirstIs (T : List ℕ) (item r : ℕ) : Type 0 where
  pub is : (x : Setting) (key : ℕ → Text) (items : ℕ) (B E : List ℕ) (S : Trail Answer) (base b : ℕ) (u : Unresolved)
      → Questioned x key items T B E S base item b u → Starts x u T item r

-- ---- one piece

-- whatever it comes to, nothing is missing
abbrev pub Found : Given Answer → Type 0
Found g = (d : ℕ) → g ≡ missing d → ⊥

-- its objects stand on the stack
abbrev pub OnStack : Piece → Type 0
OnStack (Piece.Text start size) = Unit {0}
OnStack Piece.Undefined = Unit {0}
OnStack (Piece.One top c) = Unit {0}
OnStack (Piece.Merged lo hi) = lo ≤ entries
OnStack (Piece.Needs b) = Unit {0}
OnStack (Piece.Missing place) = Unit {0}

pub record FinishedAsked (piece : Piece) : Type 0 where
  pub on : OnStack piece

pub record FinishedIs (w : List ℕ) (piece : Piece) (r : Bool) : Type 0 where
  pub is : r ≡ true → (T B E : List ℕ) (key : ℕ → Text) (items : ℕ) (known : ℕ → Option Answer) (g : Given Answer)
      → PieceCase (answers_of key items T B) known E w g piece → Found g

abbrev pub MissedCase : Given Answer → Maybe ℕ → Type 0
MissedCase g None = Found g
MissedCase g (Some d) = g ≡ missing d

pub record LackIs (T B E : List ℕ) (base : ℕ) (piece : Piece) (w w' after : List ℕ) (r : Maybe ℕ) : Type 0 where
  pub left : Left base w w'
  pub whole : Room after
  pub is : (key : ℕ → Text) (items : ℕ) (known : ℕ → Option Answer) (g : Given Answer) → PieceCase (answers_of key items T B) known E w g piece → MissedCase g r

pub record MissedAsked (B E w room : List ℕ) (base item i : ℕ) : Type 0 where
  pub asked : Asked B E w room base item
  pub piece : i < capacity

pub record MissedIs (T B E : List ℕ) (base item i : ℕ) (w w' after : List ℕ) (r : Maybe ℕ) : Type 0 where
  pub left : Left base w w'
  pub whole : Room after
  pub is : (x : Setting) (key : ℕ → Text) (items : ℕ) (S : Trail Answer) (b : ℕ) (u : Unresolved) (rest : Pieces)
      → Questioned x key items T B E S base item b u → i < end_c T item → Behind T (item + 1) u.pieces i rest
      → MissedCase (piece_in x (lookup S) u rest) r

-- ---- the pieces from one on

-- from the pieces `first` on none misses anything, up to the pieces that are left
pub data Passes (x : Setting) (known : ℕ → Option Answer) (u : Unresolved) (first : Pieces) : Pieces → Type 0 where
  here : Passes x known u first first
  more : {ps : Pieces} → Passes x known u first ps → Found (piece_in x known u ps) → Passes x known u first (rest_of ps)

pub record Stops (x : Setting) (known : ℕ → Option Answer) (u : Unresolved) (T : List ℕ) (item : ℕ) (first : Pieces) (d p : ℕ) : Type 0 where
  pub rest : Pieces
  pub behind : Behind T (item + 1) u.pieces p rest
  pub passes : Passes x known u first rest
  pub misses : piece_in x known u rest ≡ missing d

abbrev pub AheadCase : Setting → (ℕ → Option Answer) → Unresolved → List ℕ → ℕ → Pieces → Maybe Awaited → Type 0
AheadCase x known u T item first None = Passes x known u first no_pieces
AheadCase x known u T item first (Some a) = Stops x known u T item first a.question a.piece

abbrev pub AwaitedWithin : Maybe Awaited → Type 0
AwaitedWithin None = Unit {0}
AwaitedWithin (Some a) = a.piece < capacity

pub record AheadIs (T B E : List ℕ) (base item from : ℕ) (w w' after : List ℕ) (r : Maybe Awaited) : Type 0 where
  pub left : Left base w w'
  pub whole : Room after
  pub within : AwaitedWithin r
  pub is : (x : Setting) (key : ℕ → Text) (items : ℕ) (S : Trail Answer) (b : ℕ) (u : Unresolved) (first : Pieces)
      → Questioned x key items T B E S base item b u → Behind T (item + 1) u.pieces from first
      → AheadCase x (lookup S) u T item first r
