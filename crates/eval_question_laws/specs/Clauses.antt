-- What working one unresolved value out is lent, and what it is asked.
use Rattle.std.specs.Prelude.{◌≡◌, ℕ, ◌+◌, ◌*◌, ◌≤◌, ◌<◌, List, length}
use Rattle.std.proofs.Math.Option.{Option, some}
use Rattle.std.proofs.Math.ListN.{get_elem?}
use Rattle.answers.specs.Ask.{Trail, lookup}
use Rattle.rules.specs.Bytes.{Text}
use Rattle.rules.specs.Sizes.{max_environment}
use Rattle.rules.specs.Environment.{Variable, entries_of, text_of}
use Rattle.rules.specs.Tree.{Pieces, no_pieces, node_piece, substituted, Root, root_node, height_of}
use Rattle.rules.specs.Values.{Value, Answer}
use Rattle.rules.specs.NamedValues.{Distinct}
use Rattle.rules.specs.Weights.{weight_of}
use Rattle.rules.specs.Unresolved.{Unresolved}
use Rattle.rules.specs.Documents.{Setting}
use Rattle.theory.specs.Ends.{WithinSize}
use Rattle.doc_items.specs.Room.{capacity}
use Rattle.read_numbering.specs.Clauses.{AsRead, item_of}
use Rattle.eval_writer.specs.Clauses.{Room}
use Rattle.eval_writer.specs.Copies.Contracts.{most_bytes}
use Rattle.eval_stack.specs.Model.{entries, Work}
use Rattle.eval_state.specs.Memories.{job_bytes, merge_room}
use Rattle.eval_state.specs.State.{State}

-- ---- what is lent

pub record Asked (B E w room : List ℕ) (base item : ℕ) : Type 0 where
  pub whole : Room room
  pub bytes : job_bytes ≤ length B
  pub most : length B ≤ most_bytes
  pub environment : length E ≤ max_environment
  pub work : Work w
  pub used : base ≤ entries
  pub low : 0 < item
  pub high : item < capacity

-- ---- room on the stack

module _ (known : ℕ → Option Answer) (base : ℕ) where
  -- for each piece that is written
  abbrev pub PiecesFit : Pieces → Type 0
  PiecesFit no_pieces = Unit {0}
  PiecesFit (node_piece place gap n ps) = (base + 2 * weight_of known n ≤ entries) × PiecesFit ps
  PiecesFit (substituted gap x ps) = PiecesFit ps

  pub record Fits (root : Root) (ps : Pieces) : Type 0 where
    pub tree : base + 2 * weight_of known (root_node root) ≤ entries
    pub pieces : PiecesFit ps
    pub pair : base + merge_room ≤ entries

-- ---- what is asked

-- Question b, in a job's memory with the answers of the trail S: u is its unresolved value, whose item is given.
pub record Questioned (x : Setting) (key : ℕ → Text) (items : ℕ) (T B E : List ℕ) (S : Trail Answer) (base item b : ℕ) (u : Unresolved) : Type 0 where
  pub state : State x key items T B S
  pub listed : get_elem? x.document.unresolved b ≡ some u
  pub at : item ≡ item_of T b
  pub read : AsRead b u.pieces
  pub nested : height_of (root_node x.document.root) ≤ 32
  pub variables : List Variable
  pub entered : entries_of E ≡ some variables
  pub environment : x.environment ≡ text_of variables
  pub within : (c : ℕ) (a : Answer) → lookup S c ≡ some a → WithinSize a
  pub distinct : (c : ℕ) (v : Value) → lookup S c ≡ some (some v) → Distinct v
  pub fits : Fits (lookup S) base x.document.root u.pieces
