-- What a document weighs in a job's memory, with the answers of the trail: the bounds that leave room on the stack of layers.
use Rattle.std.specs.Prelude.{◌≡◌, ℕ, ◌+◌, ◌*◌, ◌≤◌, List}
use Rattle.std.proofs.Math.Option.{Option, some}
use Rattle.std.proofs.Common.{arith}
use Rattle.std.proofs.Math.ListN.{get_elem?}
use Rattle.answers.specs.Ask.{Trail, lookup}
use Rattle.rules.specs.Bytes.{Text}
use Rattle.rules.specs.Tree.{Pieces, no_pieces, node_piece, substituted, root_node}
use Rattle.rules.specs.Values.{Answer}
use Rattle.rules.specs.Weights.{weight_of}
use Rattle.rules.specs.Unresolved.{Unresolved}
use Rattle.rules.specs.Documents.{Setting, count_of}
use Rattle.doc_items.specs.Room.{text_room}
use Rattle.doc_items.specs.Parts.{numbers, letters}
use Rattle.read_numbering.specs.Clauses.{item_of}
use Rattle.theory_weights.specs.Sums.{trail-weighs}
use Rattle.theory_weights.specs.Numbered.{answers_weigh, root-weighs, pieces-weigh}
use Rattle.eval_state.specs.Memories.{NumberIn}
use Rattle.eval_state.specs.State.{State}
use Rattle.eval_frames.specs.Nodes.{PiecesBelow, node-items, pieces-items}

-- 2,049 items with the root's, and a sixth of 32,768 bytes of trail and of two for each of 256 entries
abbrev pub most_weight : ℕ
most_weight = 7595

pieces_up : (known : ℕ → Option Answer) (v w : ℕ) → v ≤ w → (ps : Pieces) → PiecesBelow known v ps → PiecesBelow known w ps
pieces_up known v w l no_pieces f = tt
pieces_up known v w l (node_piece place gap n ps) f = (omega (arith, f.0), pieces_up known v w l ps f.1)
pieces_up known v w l (substituted gap x ps) f = pieces_up known v w l ps f

module _ {x : Setting} {key : ℕ → Text} {items : ℕ} {T B : List ℕ} {S : Trail Answer} (H : State x key items T B S) where
  answers-weigh : answers_weigh (lookup S) (count_of x) ≤ 5546
  answers-weigh = omega (arith, trail-weighs S (count_of x), H.few, H.document.read.at_most)

  pub root_below : weight_of (lookup S) (root_node x.document.root) ≤ most_weight
  root_below =
      let k = H.document.keyed in
      let g = numbers T in
      omega (
        arith,
        answers-weigh,
        root-weighs (lookup S) x.document H.document.read,
        node-items g (letters 0 B) 0 text_room NumberIn (root_node x.document.root) 0 (g 0) (g 4) (g 5) (g 7) 1 (0 + g 1) (omega (arith, k.whole)) k.shown,
        k.whole,
        H.document.few,
      )

  pub pieces-below : (b : ℕ) (u : Unresolved) → get_elem? x.document.unresolved b ≡ some u → PiecesBelow (lookup S) most_weight u.pieces
  pieces-below b u e =
      let g = numbers T in
      let a = (H.document.unresolved b u e).value in
      let c = item_of T b in
      let m = answers_weigh (lookup S) (count_of x) in
      pieces_up (lookup S) (items + 1 + m) most_weight (omega (arith, answers-weigh, H.document.few)) u.pieces
      (pieces-items g (letters 0 B) 0 text_room NumberIn (lookup S) m (items + 1) u.pieces (c + 1) (c + g (8 * c + 1)) a.inside a.node.2
      (pieces-weigh (lookup S) x.document H.document.read b u e))
