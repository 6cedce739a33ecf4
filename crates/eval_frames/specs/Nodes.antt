-- A node has no more nodes than its item has items.
use Rattle.std.specs.Prelude.{ℕ, suc, ◌+◌, ◌*◌, ◌≤◌}
use Rattle.std.proofs.Math.Option.{Option}
use Rattle.std.proofs.Common.{arith}
use Rattle.rules.specs.Tree.{Node, simple, array, object, unresolved, Elements, no-elements, element, Fields, no_fields, field, Pieces, no_pieces, node_piece, substituted}
use Rattle.rules.specs.Values.{Answer}
use Rattle.rules.specs.Weights.{weight_of, weight_of_elements, weight_of_fields}
use Rattle.doc_items.specs.Holds.{Shown, ElementsAt, FieldsAt, PiecesAt}
use Rattle.theory_weights.specs.Numbered.{unknown, nodes_of, LightPieces}

-- each node among the pieces weighs no more than w
abbrev pub PiecesBelow : (known : ℕ → Option Answer) (w : ℕ) → Pieces → Type 0
PiecesBelow known w no_pieces = Unit {0}
PiecesBelow known w (node_piece place gap n ps) = (weight_of known n ≤ w) × PiecesBelow known w ps
PiecesBelow known w (substituted gap x ps) = PiecesBelow known w ps

module _ (g h : ℕ → ℕ) (lo hi : ℕ) (N : ℕ → ℕ → Type 0) where
  mutual
    unfolding weight_of

    pub node-items : (n : Node) (role k o z m i end : ℕ) → i ≤ end → Shown g h lo hi N role k o z m i end n → nodes_of n + i ≤ suc end
    node-items (simple x) role k o z m i end l s = omega arith
    node-items (array es) role k o z m i end l s = omega (arith, elements-items es i end s.1)
    node-items (object fs) role k o z m i end l s = omega (arith, fields-items fs i end s.1)
    node-items (unresolved b ps) role k o z m i end l s = omega arith

    elements-items : (es : Elements) (i end : ℕ) → ElementsAt g h lo hi N i end es → weight_of_elements unknown es + i ≤ end
    elements-items no-elements i end s = omega (arith, s.0)
    elements-items (element n es) i end s =
        let j = s.0 in
        let next = j + g (8 * j + 1) in
        let y : 1 ≤ g (8 * j + 1) = s.2.0 in
        omega (
          arith,
          s.1.0,
          node-items n 0 (g (8 * j)) (g (8 * j + 4)) (g (8 * j + 5)) (g (8 * j + 7)) (j + 1) next (omega arith) s.3,
          elements-items es next end s.4,
        )

    fields-items : (fs : Fields) (i end : ℕ) → FieldsAt g h lo hi N i end fs → weight_of_fields unknown fs + i ≤ end
    fields-items no_fields i end s = omega (arith, s.0)
    fields-items (field key n fs) i end s =
        let j = s.0 in
        let next = j + g (8 * j + 1) in
        let y : 1 ≤ g (8 * j + 1) = s.2.0 in
        omega (
          arith,
          s.1.0,
          node-items n 0 (g (8 * j)) (g (8 * j + 4)) (g (8 * j + 5)) (g (8 * j + 7)) (j + 1) next (omega arith) s.5,
          fields-items fs next end s.6,
        )

  -- the nodes among pieces, each by itself
  pub pieces-items : (known : ℕ → Option Answer) (m top : ℕ) (ps : Pieces) (i end : ℕ) → end ≤ top → PiecesAt g h lo hi N i end ps → LightPieces known m ps
      → PiecesBelow known (top + m) ps
  pieces-items known m top no_pieces i end l s f = tt
  pieces-items known m top (node_piece place gap n ps) i end l s f =
      let next = i + g (8 * i + 1) in
      let y : 1 ≤ g (8 * i + 1) = s.0.0 in
      let z : next ≤ end = s.0.1 in (
        omega (
          arith,
          f.0,
          node-items n 16 (g (8 * i)) (g (8 * i + 4)) (g (8 * i + 5)) (g (8 * i + 7)) (i + 1) next (omega arith) s.3,
        ),
        pieces-items known m top ps next end l s.4 f.1,
      )
  pieces-items known m top (substituted gap x ps) i end l s f = pieces-items known m top ps (i + g (8 * i + 1)) end l s.5 f
