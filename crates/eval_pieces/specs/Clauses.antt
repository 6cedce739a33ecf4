-- What working a piece out promises.
use Rattle.std.specs.Prelude.{◌≡◌, ℕ, ◌+◌, ◌*◌, ◌≤◌, ◌<◌, List, length, take, drop}
use Rattle.std.proofs.Math.Option.{Option, none, some}
use Rattle.std.proofs.Math.ListN.{get_elem?}
use Rattle.std.proofs.Math.Seq.{slice}
use Rattle.answers.specs.Ask.{value, missing, refused}
use Rattle.rules.specs.Bytes.{Text}
use Rattle.rules.specs.Sizes.{max_environment, max_room}
use Rattle.rules.specs.Refusals.{placed}
use Rattle.rules.specs.Environment.{Variable, entries_of, text_of}
use Rattle.rules.specs.Tree.{string, Substitution, Node, unresolved, root_node, height_of}
use Rattle.rules.specs.Values.{Answer, scalar}
use Rattle.rules.specs.Layers.{Layer}
use Rattle.rules.specs.Settled.{Given, node_in, layer_in, value_in}
use Rattle.rules.specs.Weights.{weight_of}
use Rattle.rules.specs.Unresolved.{Unresolved}
use Rattle.rules.specs.Documents.{Setting}
use Rattle.theory.specs.Ends.{WithinSize}
use Rattle.theory.specs.Depths.{Shallow}
use Rattle.theory.specs.Numbering.{Prepared}
use Rattle.theory.specs.SettledAnswers.{open_in, or_environment_in, substitution_in}
use Rattle.doc_items.specs.Codes.{as_piece, kind_at, text_at, textlen_at, place_at, number_at}
use Rattle.doc_items.specs.Holds.{ReferenceAt}
use Rattle.doc_items.specs.Parts.{numbers, letters}
use Rattle.doc_items.specs.Room.{capacity, trail_at}
use Rattle.read_numbering.specs.Clauses.{PathFits}
use Rattle.eval_stack.specs.Model.{entries, Work}
use Rattle.eval_stack.specs.Clauses.{Same}
use Rattle.eval_memory.specs.Finished.{Memory}
use Rattle.eval_memory.specs.Tables.{Number, WrittenAt, Tables}
use Rattle.eval_substitutions.specs.Documents.{Standing, UnresolvedAt}
use Rattle.eval_environment.specs.Clauses.{SubstitutionAt}
use Rattle.eval_state.specs.Memories.{job_bytes, answers_of}
use Rattle.eval_value_laws.specs.Clauses.{merged_by, LayerGiven, ObjectsGiven}
use Rattle.eval_value_laws.specs.Counting.{NoObject}
use Rattle.eval_pieces.specs.declared.Piece.{Piece}

-- ---- what is lent

pub record Lent (B E w : List ℕ) (base item i : ℕ) : Type 0 where
  pub bytes : job_bytes ≤ length B
  pub environment : length E ≤ max_environment
  pub work : Work w
  pub used : base ≤ entries
  pub low : 0 < item
  pub high : item < capacity
  pub piece : i < capacity

pub record EnvironmentAsked (E : List ℕ) (i : ℕ) : Type 0 where
  pub size : length E ≤ max_environment
  pub item : i < capacity

-- ---- what a piece comes to

-- how many levels of values may stand inside one another
abbrev pub levels : ℕ
levels = 65

-- a layer that counts alone, and what the rules give for it
pub record OneOf (M : Memory) (known : ℕ → Option Answer) (top c : ℕ) (g : Given Answer) : Type 0 where
  pub depth : ℕ
  pub layer : Layer
  pub is : g ≡ layer_in known (value_in known depth) layer
  pub plain : NoObject layer
  pub given : LayerGiven M known top levels depth c layer

-- objects on the stack, and what the rules give for their merge
pub record MergedOf (M : Memory) (known : ℕ → Option Answer) (w : List ℕ) (lo hi : ℕ) (g : Given Answer) : Type 0 where
  pub depth : ℕ
  pub objects : List Layer
  pub is : g ≡ merged_by known depth objects
  pub given : ObjectsGiven M known w lo hi levels depth objects

module _ (M : Memory) (known : ℕ → Option Answer) (E w : List ℕ) (g : Given Answer) where
  abbrev pub PieceCase : Piece → Type 0
  PieceCase (Piece.Text start size) = g ≡ value (some (scalar (string (slice start.0 (start.0 + size.0) E))))
  PieceCase Piece.Undefined = g ≡ value none
  PieceCase (Piece.One top c) = OneOf M known top c g
  PieceCase (Piece.Merged lo hi) = MergedOf M known w lo hi g
  PieceCase (Piece.Needs b) = g ≡ missing b
  PieceCase (Piece.Missing place) = g ≡ refused (placed 9 place.0)

-- where it is on the stack or in the environment
abbrev pub Inside : (base len : ℕ) → Piece → Type 0
Inside base len (Piece.Text start size) = start.0 + size.0 ≤ len
Inside base len Piece.Undefined = Unit {0}
Inside base len (Piece.One top c) = (base ≤ top) × (top ≤ entries)
Inside base len (Piece.Merged lo hi) = (base ≤ lo) × (lo ≤ hi) × (hi ≤ entries)
Inside base len (Piece.Needs b) = Unit {0}
Inside base len (Piece.Missing place) = Unit {0}

-- ---- substitutions

pub record EnvironmentIs (T X E : List ℕ) (i : ℕ) (r : Piece) : Type 0 where
  pub is : (variables : List Variable) → entries_of E ≡ some variables → (y : Substitution) → SubstitutionAt T X i y
      → (M : Memory) (known : ℕ → Option Answer) (w : List ℕ) → PieceCase M known E w (or_environment_in (text_of variables) y none) r
  pub inside : (base : ℕ) → Inside base (length E) r

-- the substitution y stands at item i in the unresolved value u of a document that was read, whose item is given
pub record ReferenceGiven (x : Setting) (M : Memory) (E : List ℕ) (known : ℕ → Option Answer) (base item i : ℕ) (u : Unresolved) (y : Substitution)
    : Type 0 where
  pub tables : Tables M known
  pub within : (b : ℕ) (a : Answer) → known b ≡ some a → WithinSize a
  pub read : Prepared x.document
  pub nested : height_of (root_node x.document.root) ≤ 32
  pub standing : Standing M x.document.root
  pub value : UnresolvedAt M item
  pub listed : get_elem? x.document.unresolved (number_at (numbers M.table) item) ≡ some u
  pub path : PathFits y
  pub place : place_at (numbers M.table) i ≡ y.place
  pub reference : ReferenceAt (numbers M.table) (letters 0 M.bytes) 0 M.ends (Number M) (kind_at (numbers M.table) i) (text_at (numbers M.table) i)
      (textlen_at (numbers M.table) i) (number_at (numbers M.table) i) y
  pub variables : List Variable
  pub entered : entries_of E ≡ some variables
  pub environment : x.environment ≡ text_of variables
  pub fits : base + 2 * weight_of known (root_node x.document.root) ≤ entries

pub record ReferenceIs (T R B E : List ℕ) (base item i : ℕ) (w w' : List ℕ) (r : Piece) : Type 0 where
  pub same : Same base w w'
  pub len : length w' ≡ length w
  pub inside : Inside base (length E) r
  pub is : R ≡ take max_room (drop trail_at B) → (x : Setting) (key : ℕ → Text) (items : ℕ) (known : ℕ → Option Answer) (u : Unresolved) (y : Substitution)
      → ReferenceGiven x (answers_of key items T B) E known base item i u y
      → PieceCase (answers_of key items T B) known E w' (substitution_in known x.document.root levels x.environment (open_in known u.openness) y) r

-- ---- pieces that are written

-- the node n stands at item i
pub record LiteralGiven (M : Memory) (known : ℕ → Option Answer) (base i : ℕ) (n : Node) : Type 0 where
  pub tables : Tables M known
  pub shallow : Shallow known
  pub shown : WrittenAt M n i
  pub piece : as_piece ≤ kind_at (numbers M.table) i
  pub low : height_of n ≤ 32
  pub fits : base + 2 * weight_of known n ≤ entries

pub record LiteralIs (T : List ℕ) (base i : ℕ) (w w' : List ℕ) (r : Piece) : Type 0 where
  pub same : Same base w w'
  pub len : length w' ≡ length w
  pub inside : (n : ℕ) → Inside base n r
  pub is : (B E : List ℕ) (key : ℕ → Text) (items : ℕ) (known : ℕ → Option Answer) (n : Node) → LiteralGiven (answers_of key items T B) known base i n
      → PieceCase (answers_of key items T B) known E w' (node_in known (value_in known levels) n) r

-- ---- either

pub record PieceIs (T B E : List ℕ) (base item i : ℕ) (w w' : List ℕ) (r : Piece) : Type 0 where
  pub same : Same base w w'
  pub len : length w' ≡ length w
  pub inside : Inside base (length E) r
  pub reference : (x : Setting) (key : ℕ → Text) (items : ℕ) (known : ℕ → Option Answer) (u : Unresolved) (y : Substitution)
      → ReferenceGiven x (answers_of key items T B) E known base item i u y
      → PieceCase (answers_of key items T B) known E w' (substitution_in known x.document.root levels x.environment (open_in known u.openness) y) r
  pub literal : (key : ℕ → Text) (items : ℕ) (known : ℕ → Option Answer) (n : Node) → LiteralGiven (answers_of key items T B) known base i n
      → PieceCase (answers_of key items T B) known E w' (node_in known (value_in known levels) n) r
