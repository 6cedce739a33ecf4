-- A document stands in any table and bytes that have the same numbers and texts. Keys count only where they lie among the document's texts:
-- of an element, whose key nothing asks, they may be any numbers.
use Rattle.std.specs.Prelude.{◌≡◌, ℕ, ◌+◌, ◌*◌, ◌≤◌, ◌<◌}
use Rattle.std.proofs.Common.{ap, ◌∙◌, arith}
use Rattle.rules.specs.Tree.{Substitution, Node, simple, array, object, unresolved, Elements, no-elements, element, Fields, no_fields, field, Pieces, no_pieces, node_piece, substituted}
use Rattle.rules.specs.Tree.{AllNode, AllElements, AllFields, AllPieces}
use Rattle.theory.specs.Reach.{InRange}
use Rattle.doc_items.specs.Holds.{Seams, ReferenceAt, ElementsAt, FieldsAt, PiecesAt, NodeAt}
use Rattle.doc_items.specs.Moving.{Grown, move-text}

-- the items before top in two tables, g and g': the same but for keys that do not end by hi
pub record SameItems (g g' : ℕ → ℕ) (hi top : ℕ) : Type 0 where
  pub kind : (i : ℕ) → i < top → g' (8 * i) ≡ g (8 * i)
  pub size : (i : ℕ) → i < top → g' (8 * i + 1) ≡ g (8 * i + 1)
  pub key : (i : ℕ) → i < top → g (8 * i + 2) + g (8 * i + 3) ≤ hi → g' (8 * i + 2) ≡ g (8 * i + 2)
  pub keylen : (i : ℕ) → i < top → g (8 * i + 2) + g (8 * i + 3) ≤ hi → g' (8 * i + 3) ≡ g (8 * i + 3)
  pub rest : (i c : ℕ) → i < top → 4 ≤ c → c < 8 → g' (8 * i + c) ≡ g (8 * i + c)

-- all numbers of them are the same
pub same-items : {g g' : ℕ → ℕ} {hi top : ℕ} → ((j : ℕ) → j < 8 * top → g' j ≡ g j) → SameItems g g' hi top
same-items e = record {
  kind = λ i l. e (8 * i) (omega arith);
  size = λ i l. e (8 * i + 1) (omega arith);
  key = λ i l u. e (8 * i + 2) (omega arith);
  keylen = λ i l u. e (8 * i + 3) (omega arith);
  rest = λ i c l a b. e (8 * i + c) (omega arith);
}

-- unresolved values are numbered below A; N and N' say how their numbers and those of their items go together
module _ {g g' h h' : ℕ → ℕ} {hi hi' top : ℕ} (G : SameItems g g' hi top) (M : Grown h h' 0 hi 0 hi') (A : ℕ) (N N' : ℕ → ℕ → Type 0)
    (numbers : (m b : ℕ) → b < A → N m b → N' m b) where
  same-seams : (i j : ℕ) → j ≤ top → Seams g h 0 hi N i j → Seams g' h' 0 hi' N' i j
  same-seams i j l s = (s.0, λ k u v. omega (arith, s.1 k u v, G.kind k (omega arith)))

  same-reference : {k o z m k' o' z' m' : ℕ} {x : Substitution} → k' ≡ k → o' ≡ o → z' ≡ z → m' ≡ m → ReferenceAt g h 0 hi N k o z m x
      → ReferenceAt g' h' 0 hi' N' k' o' z' m' x
  same-reference a b c e r = record { kind = a ∙ r.kind; count = e ∙ r.count; size = c ∙ r.size; path = move-text M b (omega arith) r.path }

  -- the end of an item
  next : (j : ℕ) → j < top → j + g' (8 * j + 1) ≡ j + g (8 * j + 1)
  next j l = ap (λ (n : ℕ). j + n) (G.size j l)

  mutual
    pub same-node : (n : Node) (role j : ℕ) → j < top → j + g (8 * j + 1) ≤ top → AllNode (InRange A) n → NodeAt g h 0 hi N role j n
        → NodeAt g' h' 0 hi' N' role j n
    same-node (simple x) role j l u w s = (
      G.kind j l ∙ s.0,
      move-text M (G.rest j 4 l (omega arith) (omega arith)) (G.rest j 5 l (omega arith) (omega arith)) s.1,
      rw (next j l) (same-seams (j + 1) (j + g (8 * j + 1)) u s.2),
    )
    same-node (array es) role j l u w s = (G.kind j l ∙ s.0, rw (next j l) (same-elements es (j + 1) (j + g (8 * j + 1)) u w s.1))
    same-node (object fs) role j l u w s = (G.kind j l ∙ s.0, rw (next j l) (same-fields fs (j + 1) (j + g (8 * j + 1)) u w s.1))
    same-node (unresolved b ps) role j l u w s = (
      G.kind j l ∙ s.0,
      rw (G.rest j 7 l (omega arith) (omega arith)) (numbers (g (8 * j + 7)) b w.0 s.1),
      rw (next j l) (same-pieces ps (j + 1) (j + g (8 * j + 1)) u w.1 s.2),
    )

    same-elements : (es : Elements) (i end : ℕ) → end ≤ top → AllElements (InRange A) es → ElementsAt g h 0 hi N i end es
        → ElementsAt g' h' 0 hi' N' i end es
    same-elements no-elements i end l w s = same-seams i end l s
    same-elements (element n es) i end l w s =
        let j = s.0 in
        let y : 1 ≤ g (8 * j + 1) = s.2.0 in
        let x : j + g (8 * j + 1) ≤ end = s.2.1 in
        let e = G.size j (omega arith) in (
          j,
          same-seams i j (omega arith) s.1,
          (omega arith, omega arith),
          same-node n 0 j (omega arith) (omega arith) w.0 s.3,
          rw (next j (omega arith)) (same-elements es (j + g (8 * j + 1)) end l w.1 s.4),
        )

    same-fields : (fs : Fields) (i end : ℕ) → end ≤ top → AllFields (InRange A) fs → FieldsAt g h 0 hi N i end fs → FieldsAt g' h' 0 hi' N' i end fs
    same-fields no_fields i end l w s = same-seams i end l s
    same-fields (field key n fs) i end l w s =
        let j = s.0 in
        let y : 1 ≤ g (8 * j + 1) = s.2.0 in
        let x : j + g (8 * j + 1) ≤ end = s.2.1 in
        let u = s.3.upto in
        let e = G.size j (omega arith) in (
          j,
          same-seams i j (omega arith) s.1,
          (omega arith, omega arith),
          move-text M (G.key j (omega arith) u) (G.keylen j (omega arith) u) s.3,
          G.rest j 6 (omega arith) (omega arith) (omega arith) ∙ s.4,
          same-node n 0 j (omega arith) (omega arith) w.0 s.5,
          rw (next j (omega arith)) (same-fields fs (j + g (8 * j + 1)) end l w.1 s.6),
        )

    pub same-pieces : (ps : Pieces) (i end : ℕ) → end ≤ top → AllPieces (InRange A) ps → PiecesAt g h 0 hi N i end ps → PiecesAt g' h' 0 hi' N' i end ps
    same-pieces no_pieces i end l w s = s
    same-pieces (node_piece place gap n ps) i end l w s =
        let y : 1 ≤ g (8 * i + 1) = s.0.0 in
        let x : i + g (8 * i + 1) ≤ end = s.0.1 in
        let u = s.1.upto in
        let e = G.size i (omega arith) in (
          (omega arith, omega arith),
          move-text M (G.key i (omega arith) u) (G.keylen i (omega arith) u) s.1,
          G.rest i 6 (omega arith) (omega arith) (omega arith) ∙ s.2,
          same-node n 16 i (omega arith) (omega arith) w.0 s.3,
          rw (next i (omega arith)) (same-pieces ps (i + g (8 * i + 1)) end l w.1 s.4),
        )
    same-pieces (substituted gap x ps) i end l w s =
        let y : 1 ≤ g (8 * i + 1) = s.0.0 in
        let v : i + g (8 * i + 1) ≤ end = s.0.1 in
        let u = s.1.upto in
        let e = G.size i (omega arith) in (
          (omega arith, omega arith),
          move-text M (G.key i (omega arith) u) (G.keylen i (omega arith) u) s.1,
          G.rest i 6 (omega arith) (omega arith) (omega arith) ∙ s.2,
          same-reference (G.kind i (omega arith)) (G.rest i 4 (omega arith) (omega arith) (omega arith))
              (G.rest i 5 (omega arith) (omega arith) (omega arith)) (G.rest i 7 (omega arith) (omega arith) (omega arith)) s.3,
          e ∙ s.4,
          rw (next i (omega arith)) (same-pieces ps (i + g (8 * i + 1)) end l w s.5),
        )
