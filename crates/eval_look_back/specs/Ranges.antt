-- An item's number is in the range of the node in whose span the item stands: the field around an item is the field around its number.
use Rattle.std.specs.Prelude.{◌≡◌, ℕ, suc, ◌+◌, ◌≤◌, ◌<◌, true, false}
use Rattle.std.proofs.Common.{sym, arith}
use Rattle.std.proofs.Math.Path.{ap, subst}
use Rattle.rules.specs.Tree.{Scalar, null, boolean, number, string, Substitution, Node, simple, array, object, unresolved, Elements, no-elements, element, Fields, no_fields, field, Pieces, no_pieces, node_piece, substituted}
use Rattle.doc_items.specs.Codes.{code_of, unresolved_item, as_member, as_piece, kind_at, size_at, text_at, textlen_at, number_at, next_at}
use Rattle.doc_items.specs.Holds.{Seams, ReferenceAt, Shown, ElementsAt, FieldsAt, PiecesAt, NodeAt}
use Rattle.theory_back.specs.Descent.{count_node, count_elements, count_fields, count_pieces}
use Rattle.theory_back.specs.Numbers.{FromNode, FromElements, FromFields, FromPieces}
use Rattle.eval_keys.specs.Texts.{by_less}

pub code-small : (x : Scalar) → code_of x ≤ 5
code-small null = omega arith
code-small (boolean false) = omega arith
code-small (boolean true) = omega arith
code-small (number t) = omega arith
code-small (string t) = omega arith

module _ (g h : ℕ → ℕ) (lo hi bound : ℕ) where
  -- an unresolved value's number is its item's, and below a bound
  abbrev pub Number : ℕ → ℕ → Type 0
  Number m b = (m ≡ b) × (b < bound)

  abbrev pub NodeIn : ℕ → ℕ → Node → Type 0
  NodeIn role i n = NodeAt g h lo hi Number role i n

  abbrev pub FieldsIn : ℕ → ℕ → Fields → Type 0
  FieldsIn i j fs = FieldsAt g h lo hi Number i j fs

  abbrev pub ElementsIn : ℕ → ℕ → Elements → Type 0
  ElementsIn i j es = ElementsAt g h lo hi Number i j es

  abbrev pub PiecesIn : ℕ → ℕ → Pieces → Type 0
  PiecesIn i j ps = PiecesAt g h lo hi Number i j ps

  abbrev pub SeamsIn : ℕ → ℕ → Type 0
  SeamsIn i j = Seams g h lo hi Number i j

  module _ (t : ℕ) (kind : kind_at g t ≡ unresolved_item) where
    abbrev b : ℕ
    b = number_at g t

    -- the number is one of so many from one on
    abbrev pub In : ℕ → ℕ → Type 0
    In from count = (from ≤ b) × (b < from + count)

    pub no-seam : (i j : ℕ) → SeamsIn i j → i ≤ t → t < j → ⊥
    no-seam i j s l u = let k = s.1 t l u in omega arith

    -- the item itself, where it is no piece
    here-node : (i from : ℕ) (n : Node) → i ≡ t → NodeIn as_member i n → FromNode from n → In from (count_node n)
    unfolding count_node
    here-node i from (simple x) e s f =
        let k : kind_at g i ≡ unresolved_item = subst (λ (j : ℕ). kind_at g j ≡ unresolved_item) (sym e) kind in absurd (omega (arith, s.0, code-small x))
    here-node i from (array es) e s f =
        let k : kind_at g i ≡ unresolved_item = subst (λ (j : ℕ). kind_at g j ≡ unresolved_item) (sym e) kind in absurd (omega (arith, s.0))
    here-node i from (object fs) e s f =
        let k : kind_at g i ≡ unresolved_item = subst (λ (j : ℕ). kind_at g j ≡ unresolved_item) (sym e) kind in absurd (omega (arith, s.0))
    here-node i from (unresolved c ps) e s f =
        let k : number_at g i ≡ b = ap (λ (j : ℕ). number_at g j) e in
        (omega (arith, s.1.0, f.0), omega (arith, s.1.0, f.0))

    not_piece : (i : ℕ) (n : Node) → i ≡ t → NodeIn as_piece i n → ⊥
    not_piece i n e s = omega (arith, piece_kind i n s, ap (λ (j : ℕ). kind_at g j) e)
      where
        piece_kind : (i : ℕ) (n : Node) → NodeIn as_piece i n → as_piece ≤ kind_at g i
        piece_kind i (simple x) s = omega (arith, s.0)
        piece_kind i (array es) s = omega (arith, s.0)
        piece_kind i (object fs) s = omega (arith, s.0)
        piece_kind i (unresolved c ps) s = omega (arith, s.0)

    not-reference : (i : ℕ) (x : Substitution) → ReferenceAt g h lo hi Number (kind_at g i) (text_at g i) (textlen_at g i) (number_at g i) x → size_at g i ≡ 1
        → i ≤ t → t < next_at g i → ⊥
    not-reference i x s one l u =
        let e : i ≡ t = omega (arith, one) in
        omega (arith, s.kind, ap (λ (j : ℕ). kind_at g j) e)

    -- a member's own item, or one inside it; a piece's own is none
    pub in-member : (j from : ℕ) (n : Node) → NodeIn as_member j n → FromNode from n → j ≤ t → (j < t → In from (count_node n)) → In from (count_node n)
    in-member j from n s f l inner = by_less _ j t inner (λ d. here-node j from n (omega arith) s f)

    in-piece : (j from : ℕ) (n : Node) → NodeIn as_piece j n → j ≤ t → (j < t → In from (count_node n)) → In from (count_node n)
    in-piece j from n s l inner = by_less _ j t inner (λ d. absurd (not_piece j n (omega arith) s))

    mutual
      unfolding count_node

      -- among the items inside a node
      pub inside-node : (role k o z m i end from : ℕ) (n : Node) → Shown g h lo hi Number role k o z m i end n → FromNode from n
          → i ≤ t → t < end → In from (count_node n)
      inside-node role k o z m i end from (simple x) s f l u = absurd (no-seam i end s.2 l u)
      inside-node role k o z m i end from (array es) s f l u = in-elements i end from es s.1 f l u
      inside-node role k o z m i end from (object fs) s f l u = in-fields i end from fs s.1 f l u
      inside-node role k o z m i end from (unresolved c ps) s f l u =
          let q = in-pieces i end (suc from) ps s.2 f.1 l u in
          (omega (arith, q.0), omega (arith, q.1))

      in-elements : (i end from : ℕ) (es : Elements) → ElementsIn i end es → FromElements from es → i ≤ t → t < end → In from (count_elements es)
      in-elements i end from no-elements s f l u = absurd (no-seam i end s l u)
      in-elements i end from (element n es) s f l u =
          let j = s.0 in
          by_less _ t j (λ d. absurd (no-seam i j s.1 l d)) (λ d.
          by_less _ t (next_at g j)
          (λ e. let q = in-member j from n s.3 f.0 d
          (λ a. inside-node as_member (kind_at g j) (text_at g j) (textlen_at g j) (number_at g j) (j + 1) (next_at g j) from n s.3 f.0 (omega arith)
          e) in (q.0, omega (arith, q.1)))
          (λ e. let q = in-elements (next_at g j) end (from + count_node n) es s.4 f.1 e u in (omega (arith, q.0), omega (arith, q.1))))

      pub in-fields : (i end from : ℕ) (fs : Fields) → FieldsIn i end fs → FromFields from fs → i ≤ t → t < end → In from (count_fields fs)
      in-fields i end from no_fields s f l u = absurd (no-seam i end s l u)
      in-fields i end from (field key n fs) s f l u =
          let j = s.0 in
          by_less _ t j (λ d. absurd (no-seam i j s.1 l d)) (λ d.
          by_less _ t (next_at g j)
          (λ e. let q = in-member j from n s.5 f.0 d
          (λ a. inside-node as_member (kind_at g j) (text_at g j) (textlen_at g j) (number_at g j) (j + 1) (next_at g j) from n s.5 f.0 (omega arith)
          e) in (q.0, omega (arith, q.1)))
          (λ e. let q = in-fields (next_at g j) end (from + count_node n) fs s.6 f.1 e u in (omega (arith, q.0), omega (arith, q.1))))

      pub in-pieces : (i end from : ℕ) (ps : Pieces) → PiecesIn i end ps → FromPieces from ps → i ≤ t → t < end → In from (count_pieces ps)
      in-pieces i end from no_pieces s f l u = absurd (omega (arith, s))
      in-pieces i end from (node_piece place gap n ps) s f l u =
          by_less _ t (next_at g i)
          (λ e. let q = in-piece i from n s.3 l
          (λ a. inside-node as_piece (kind_at g i) (text_at g i) (textlen_at g i) (number_at g i) (i + 1) (next_at g i) from n s.3 f.0 (omega arith)
          e) in (q.0, omega (arith, q.1)))
          (λ e. let q = in-pieces (next_at g i) end (from + count_node n) ps s.4 f.1 e u in (omega (arith, q.0), omega (arith, q.1)))
      in-pieces i end from (substituted gap x ps) s f l u =
          by_less _ t (next_at g i)
          (λ e. absurd (not-reference i x s.3 s.4 l e))
          (λ e. in-pieces (next_at g i) end from ps s.5 f e u)
