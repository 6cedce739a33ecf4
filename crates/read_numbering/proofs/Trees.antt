-- Numbers that go by how many items of kind 8 stand before an item are the numbers of the tree's unresolved values.
use mathlib.Core.Path.{◌≡◌, refl, sym, ap, ◌∙◌}
use Prim.Native.Nat.{ℕ, suc, ◌+◌, ◌*◌, ◌≤◌, ◌<◌}
use mathlib.Core.Bool.{Bool, true, false}
use native.Mathlib.Omega.{arith}
use Rattle.rules.specs.Bytes.{Text}
use Rattle.rules.specs.Tree.{Scalar, null, boolean, number, string, Substitution, Node, simple, array, object, unresolved, Elements, no-elements, element, Fields, no_fields, field, Pieces, no_pieces, node_piece, substituted, number_node, number_elements, number_fields, number_pieces, AllNode, AllElements, AllFields, AllPieces}
use Rattle.doc_items.specs.Codes.{code_of, reference_code}
use Rattle.doc_items.specs.Holds.{TextAt, Seams, Sized, ReferenceAt, NodeAt, ElementsAt, FieldsAt, PiecesAt}
use Rattle.doc_items.specs.Moving.{Grown, move-text}
use Rattle.doc_items.specs.Joining.{Simples}
use Rattle.read_numbering.specs.Clauses.{AsRead}
use Rattle.read_numbering.proofs.Counts.{eights, eights-one, eights-none, eights-seams}

-- ---- kinds

-- in such a role only an unresolved value is of kind 8
abbrev pub Apart : ℕ → Type 0
Apart role = (c : ℕ) → c < 8 → role + c ≡ 8 → ⊥

-- an unresolved value is no piece
abbrev pub Fits : ℕ → Node → Type 0
Fits role (simple x) = Unit {0}
Fits role (array es) = Unit {0}
Fits role (object fs) = Unit {0}
Fits role (unresolved b ps) = role ≡ 0

pub member_apart : Apart 0
member_apart c l e = omega arith

pub piece-apart : Apart 16
piece-apart c l e = omega arith

pub member-fits : (n : Node) → Fits 0 n
member-fits (simple x) = tt
member-fits (array es) = tt
member-fits (object fs) = tt
member-fits (unresolved b ps) = refl

pub piece-fits : (place : ℕ) (gap : Text) (n : Node) (ps : Pieces) → Simples (node_piece place gap n ps) → Fits 16 n × Simples ps
piece-fits place gap (simple x) ps s = (tt, s)
piece-fits place gap (array es) ps s = (tt, s)
piece-fits place gap (object fs) ps s = (tt, s)
piece-fits place gap (unresolved b qs) ps s = absurd s

simple-code : (x : Scalar) → code_of x < 8
simple-code null = omega arith
simple-code (boolean true) = omega arith
simple-code (boolean false) = omega arith
simple-code (number t) = omega arith
simple-code (string t) = omega arith

reference-code : (k : ℕ) (b : Bool) → k ≡ 16 + reference_code b → 16 ≤ k
reference-code k true e = omega arith
reference-code k false e = omega arith

abbrev pub Any : ℕ → ℕ → Type 0
Any m b = Unit {0}

abbrev pub Same : ℕ → ℕ → Type 0
Same m b = m ≡ b

module _ (g h : ℕ → ℕ) (lo hi : ℕ) where
  -- ---- the next number behind a node

  pub behind-seams : (i j b : ℕ) → b ≡ eights g i → Seams g h lo hi Any i j → b ≡ eights g j
  behind-seams i j b e s = e ∙ sym (eights-seams g i j s.0 s.1)

  -- past an item that is not unresolved, or past one that is
  pub past : (j b : ℕ) → (g (8 * j) ≡ 8 → ⊥) → b ≡ eights g j → b ≡ eights g (j + 1)
  past j b k e = e ∙ sym (eights-none g j k)

  pub past_one : (j b : ℕ) → g (8 * j) ≡ 8 → b ≡ eights g j → suc b ≡ eights g (j + 1)
  past_one j b k e = ap suc e ∙ sym (eights-one g j k)

  pub past-reference : (j b : ℕ) (x : Substitution) {o z m : ℕ} → ReferenceAt g h lo hi Any (g (8 * j)) o z m x → g (8 * j + 1) ≡ 1 → b ≡ eights g j
      → b ≡ eights g (j + g (8 * j + 1))
  past-reference j b x r s e =
      let k : 16 ≤ g (8 * j) = reference-code (g (8 * j)) x.optional r.kind in
      rw s (past j b (λ z. omega arith) e)

  mutual
    unfolding number_node

    pub counts-node : (n : Node) (role j b : ℕ) → Apart role → Fits role n → b ≡ eights g j → NodeAt g h lo hi Any role j n → AllNode AsRead n
        → (number_node b n).1 ≡ eights g (j + g (8 * j + 1))
    counts-node (simple x) role j b p f e s a =
        behind-seams (j + 1) (j + g (8 * j + 1)) b (past j b (λ z. p (code_of x) (simple-code x) (sym s.0 ∙ z)) e) s.2
    counts-node (array es) role j b p f e s a =
        counts-elements es (j + 1) (j + g (8 * j + 1)) b (past j b (λ z. p 6 (omega arith) (sym s.0 ∙ z)) e) s.1 a
    counts-node (object fs) role j b p f e s a =
        counts-fields fs (j + 1) (j + g (8 * j + 1)) b (past j b (λ z. p 7 (omega arith) (sym s.0 ∙ z)) e) s.1 a
    counts-node (unresolved c ps) role j b p f e s a =
        counts-pieces ps (j + 1) (j + g (8 * j + 1)) (suc b) (past_one j b (omega (arith, s.0, f)) e) s.2 a.0.1 a.1

    pub counts-elements : (es : Elements) (i end b : ℕ) → b ≡ eights g i → ElementsAt g h lo hi Any i end es → AllElements AsRead es
        → (number_elements b es).1 ≡ eights g end
    counts-elements no-elements i end b e s a = behind-seams i end b e s
    counts-elements (element n es) i end b e s a =
        let j = s.0 in
        let c = counts-node n 0 j b member_apart (member-fits n) (behind-seams i j b e s.1) s.3 a.0 in
        counts-elements es (j + g (8 * j + 1)) end (number_node b n).1 c s.4 a.1

    pub counts-fields : (fs : Fields) (i end b : ℕ) → b ≡ eights g i → FieldsAt g h lo hi Any i end fs → AllFields AsRead fs
        → (number_fields b fs).1 ≡ eights g end
    counts-fields no_fields i end b e s a = behind-seams i end b e s
    counts-fields (field k n fs) i end b e s a =
        let j = s.0 in
        let c = counts-node n 0 j b member_apart (member-fits n) (behind-seams i j b e s.1) s.5 a.0 in
        counts-fields fs (j + g (8 * j + 1)) end (number_node b n).1 c s.6 a.1

    pub counts-pieces : (ps : Pieces) (i end b : ℕ) → b ≡ eights g i → PiecesAt g h lo hi Any i end ps → Simples ps → AllPieces AsRead ps
        → (number_pieces b ps).1 ≡ eights g end
    counts-pieces no_pieces i end b e s q a = e ∙ ap (eights g) s
    counts-pieces (node_piece place gap n ps) i end b e s q a =
        let f = piece-fits place gap n ps q in
        let c = counts-node n 16 i b piece-apart f.0 e s.3 a.0 in
        counts-pieces ps (i + g (8 * i + 1)) end (number_node b n).1 c s.4 f.1 a.1
    counts-pieces (substituted gap x ps) i end b e s q a =
        counts-pieces ps (i + g (8 * i + 1)) end b (past-reference i b x s.3 s.4 e) s.5 q a

  -- ---- the tree in the table with the numbers

  -- a table with the numbers: all else in it stays
  pub record Given (g' : ℕ → ℕ) (items : ℕ) : Type 0 where
    pub kind : (j : ℕ) → j < items → g' (8 * j) ≡ g (8 * j)
    pub column : (j c : ℕ) → j < items → c < 7 → g' (8 * j + c) ≡ g (8 * j + c)
    pub count : (j : ℕ) → j < items → 16 ≤ g (8 * j) → g' (8 * j + 7) ≡ g (8 * j + 7)
    pub number : (j : ℕ) → j < items → g (8 * j) ≡ 8 → g' (8 * j + 7) ≡ eights g j

  still : Grown h h lo hi lo hi
  still = record { low = omega arith; high = omega arith; text = λ p k l. refl }

  module _ (g' : ℕ → ℕ) (items : ℕ) (K : Given g' items) where
    given-seams : (i j : ℕ) → j ≤ items → Seams g h lo hi Any i j → Seams g' h lo hi Same i j
    given-seams i j l s = (s.0, λ k u v. let e : g' (8 * k) ≡ g (8 * k) = K.kind k (omega arith) in rw e (s.1 k u v))

    given-sized : (j end : ℕ) → end ≤ items → Sized g h lo hi Any j end → Sized g' h lo hi Same j end
    given-sized j end l s =
        let y : 1 ≤ g (8 * j + 1) = s.0 in
        let x : j + g (8 * j + 1) ≤ end = s.1 in
        let e : g' (8 * j + 1) ≡ g (8 * j + 1) = K.column j 1 (omega arith) (omega arith) in
        (omega arith, omega arith)

    given-text : (j o z : ℕ) {t : Text} → j < items → o < 7 → z < 7 → TextAt h lo hi (g (8 * j + o)) (g (8 * j + z)) t
        → TextAt h lo hi (g' (8 * j + o)) (g' (8 * j + z)) t
    given-text j o z l u v t = move-text still (K.column j o l u) (K.column j z l v) t

    given-reference : (j : ℕ) (x : Substitution) → j < items
        → ReferenceAt g h lo hi Any (g (8 * j)) (g (8 * j + 4)) (g (8 * j + 5)) (g (8 * j + 7)) x
        → ReferenceAt g' h lo hi Same (g' (8 * j)) (g' (8 * j + 4)) (g' (8 * j + 5)) (g' (8 * j + 7)) x
    given-reference j x l r =
        let o : g' (8 * j + 4) ≡ g (8 * j + 4) = K.column j 4 l (omega arith) in
        let z : g' (8 * j + 5) ≡ g (8 * j + 5) = K.column j 5 l (omega arith) in
        let m : g' (8 * j + 7) ≡ g (8 * j + 7) = K.count j l (reference-code (g (8 * j)) x.optional r.kind) in
        record {
          kind = K.kind j l ∙ r.kind;
          count = m ∙ r.count;
          size = z ∙ r.size;
          path = move-text still o (omega arith) r.path;
        }

    mutual
      unfolding number_node

      pub shown-node : (n : Node) (role j b : ℕ) → Apart role → Fits role n → j < items → j + g (8 * j + 1) ≤ items → b ≡ eights g j
          → NodeAt g h lo hi Any role j n → AllNode AsRead n → NodeAt g' h lo hi Same role j (number_node b n).0
      shown-node (simple x) role j b p f u v e s a =
          let z : g' (8 * j + 1) ≡ g (8 * j + 1) = K.column j 1 u (omega arith) in (
            K.kind j u ∙ s.0,
            given-text j 4 5 u (omega arith) (omega arith) s.1,
            rw z (given-seams (j + 1) (j + g (8 * j + 1)) v s.2),
          )
      shown-node (array es) role j b p f u v e s a =
          let z : g' (8 * j + 1) ≡ g (8 * j + 1) = K.column j 1 u (omega arith) in
          let c = past j b (λ q. p 6 (omega arith) (sym s.0 ∙ q)) e in
          (K.kind j u ∙ s.0, rw z (shown-elements es (j + 1) (j + g (8 * j + 1)) b v c s.1 a))
      shown-node (object fs) role j b p f u v e s a =
          let z : g' (8 * j + 1) ≡ g (8 * j + 1) = K.column j 1 u (omega arith) in
          let c = past j b (λ q. p 7 (omega arith) (sym s.0 ∙ q)) e in
          (K.kind j u ∙ s.0, rw z (shown-fields fs (j + 1) (j + g (8 * j + 1)) b v c s.1 a))
      shown-node (unresolved _ ps) role j b p f u v e s a =
          let z : g' (8 * j + 1) ≡ g (8 * j + 1) = K.column j 1 u (omega arith) in
          let k : g (8 * j) ≡ 8 = omega (arith, s.0, f) in
          let c = past_one j b k e in (
            K.kind j u ∙ s.0,
            K.number j u k ∙ sym e,
            rw z (shown-pieces ps (j + 1) (j + g (8 * j + 1)) (suc b) v c s.2 a.0.1 a.1),
          )

      pub shown-elements : (es : Elements) (i end b : ℕ) → end ≤ items → b ≡ eights g i → ElementsAt g h lo hi Any i end es → AllElements AsRead es
          → ElementsAt g' h lo hi Same i end (number_elements b es).0
      shown-elements no-elements i end b l e s a = given-seams i end l s
      shown-elements (element n es) i end b l e s a =
          let j = s.0 in
          let y : 1 ≤ g (8 * j + 1) = s.2.0 in
          let x : j + g (8 * j + 1) ≤ end = s.2.1 in
          let z : g' (8 * j + 1) ≡ g (8 * j + 1) = K.column j 1 (omega arith) (omega arith) in
          let d = behind-seams i j b e s.1 in
          let c = counts-node n 0 j b member_apart (member-fits n) d s.3 a.0 in
          let rest = shown-elements es (j + g (8 * j + 1)) end (number_node b n).1 l c s.4 a.1 in (
            j,
            given-seams i j (omega arith) s.1,
            given-sized j end l s.2,
            shown-node n 0 j b member_apart (member-fits n) (omega arith) (omega arith) d s.3 a.0,
            rw z rest,
          )

      pub shown-fields : (fs : Fields) (i end b : ℕ) → end ≤ items → b ≡ eights g i → FieldsAt g h lo hi Any i end fs → AllFields AsRead fs
          → FieldsAt g' h lo hi Same i end (number_fields b fs).0
      shown-fields no_fields i end b l e s a = given-seams i end l s
      shown-fields (field key n fs) i end b l e s a =
          let j = s.0 in
          let y : 1 ≤ g (8 * j + 1) = s.2.0 in
          let x : j + g (8 * j + 1) ≤ end = s.2.1 in
          let w : j < items = omega arith in
          let z : g' (8 * j + 1) ≡ g (8 * j + 1) = K.column j 1 w (omega arith) in
          let d = behind-seams i j b e s.1 in
          let c = counts-node n 0 j b member_apart (member-fits n) d s.5 a.0 in
          let rest = shown-fields fs (j + g (8 * j + 1)) end (number_node b n).1 l c s.6 a.1 in (
            j,
            given-seams i j (omega arith) s.1,
            given-sized j end l s.2,
            given-text j 2 3 w (omega arith) (omega arith) s.3,
            K.column j 6 w (omega arith) ∙ s.4,
            shown-node n 0 j b member_apart (member-fits n) w (omega arith) d s.5 a.0,
            rw z rest,
          )

      pub shown-pieces : (ps : Pieces) (i end b : ℕ) → end ≤ items → b ≡ eights g i → PiecesAt g h lo hi Any i end ps → Simples ps
          → AllPieces AsRead ps → PiecesAt g' h lo hi Same i end (number_pieces b ps).0
      shown-pieces no_pieces i end b l e s q a = s
      shown-pieces (node_piece place gap n ps) i end b l e s q a =
          let y : 1 ≤ g (8 * i + 1) = s.0.0 in
          let x : i + g (8 * i + 1) ≤ end = s.0.1 in
          let w : i < items = omega arith in
          let z : g' (8 * i + 1) ≡ g (8 * i + 1) = K.column i 1 w (omega arith) in
          let f = piece-fits place gap n ps q in
          let c = counts-node n 16 i b piece-apart f.0 e s.3 a.0 in
          let rest = shown-pieces ps (i + g (8 * i + 1)) end (number_node b n).1 l c s.4 f.1 a.1 in (
            given-sized i end l s.0,
            given-text i 2 3 w (omega arith) (omega arith) s.1,
            K.column i 6 w (omega arith) ∙ s.2,
            shown-node n 16 i b piece-apart f.0 w (omega arith) e s.3 a.0,
            rw z rest,
          )
      shown-pieces (substituted gap x ps) i end b l e s q a =
          let y : 1 ≤ g (8 * i + 1) = s.0.0 in
          let v : i + g (8 * i + 1) ≤ end = s.0.1 in
          let w : i < items = omega arith in
          let z : g' (8 * i + 1) ≡ g (8 * i + 1) = K.column i 1 w (omega arith) in
          let c = past-reference i b x s.3 s.4 e in
          let rest = shown-pieces ps (i + g (8 * i + 1)) end b l c s.5 q a in (
            given-sized i end l s.0,
            given-text i 2 3 w (omega arith) (omega arith) s.1,
            K.column i 6 w (omega arith) ∙ s.2,
            given-reference i x w s.3,
            z ∙ s.4,
            rw z rest,
          )
