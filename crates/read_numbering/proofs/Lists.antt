-- The list of a tree's unresolved values: each is at an item of kind 8, its number is how many of these stand before, and its place is that of
-- the next item.
use mathlib.Core.Path.{◌≡◌, refl, sym, ◌∙◌}
use Prim.Native.Nat.{ℕ, zero, suc, ◌+◌, ◌*◌, ◌≤◌, ◌<◌}
use mathlib.Core.List.{List, [], ◌∷◌, ◌++◌}
use mathlib.Core.Option.{none, some}
use native.Mathlib.Omega.{arith}
use lib.ListN.{length, get_elem?}
use Rattle.answers.specs.Theory.Sound.{clash}
use Rattle.rules.specs.Tree.{Node, simple, array, object, unresolved, Elements, no-elements, element, Fields, no_fields, field, Pieces, no_pieces, node_piece, substituted, first_place, number_node, number_elements, number_fields, number_pieces, AllNode, AllElements, AllFields, AllPieces}
use Rattle.rules.specs.Unresolved.{Unresolved, Openness, field_openness, with_field, in_node, in_elements, in_fields, in_pieces}
use Rattle.theory.specs.Numbering.{count-node}
use Rattle.doc_items.specs.Holds.{NodeAt, ElementsAt, FieldsAt, PiecesAt}
use Rattle.doc_items.specs.Joining.{Simples}
use Rattle.read_numbering.specs.Clauses.{Filled, AsRead}
use Rattle.read_numbering.proofs.Counts.{eights}
use Rattle.read_numbering.proofs.Trees.{Apart, Fits, Any, member_apart, piece-apart, member-fits, piece-fits, behind-seams, past, past_one, past-reference, counts-node}

-- ---- lists

pub few-none : {A : Type 0} (l : List A) (i : ℕ) → length l ≤ i → get_elem? l i ≡ none
few-none [] i h = refl
few-none (x ∷ l) zero h = absurd (omega arith)
few-none (x ∷ l) (suc i) h = few-none l i (omega arith)

pub many-some : {A : Type 0} (l : List A) (i : ℕ) → i < length l → (x : A) × (get_elem? l i ≡ some x)
many-some [] i h = absurd (omega arith)
many-some (x ∷ l) zero h = (x, refl)
many-some (x ∷ l) (suc i) h = many-some l i (omega arith)

module _ (g h : ℕ → ℕ) (lo hi items : ℕ) (Q : ℕ → Pieces → Type 0) where
  -- the unresolved value numbered b
  pub record Standing (b : ℕ) (u : Unresolved) : Type 0 where
    pub item : ℕ
    pub inside : item + 1 < items
    pub kind : g (8 * item) ≡ 8
    pub number : b ≡ eights g item
    pub place : u.place ≡ g (8 * (item + 1) + 6)
    pub pieces : Q item u.pieces

  abbrev pub Standings : ℕ → List Unresolved → Type 0
  Standings b [] = Unit {0}
  Standings b (u ∷ us) = Standing b u × Standings (suc b) us

  join : (xs ys : List Unresolved) (b c : ℕ) → c ≡ b + length xs → Standings b xs → Standings c ys → Standings b (xs ++ ys)
  join [] ys b c e s t = let f : c ≡ b = omega arith in rw f at t
  join (x ∷ xs) ys b c e s t = (s.0, join xs ys (suc b) c (omega arith) s.1 t)

  pub standing : (us : List Unresolved) (b i : ℕ) (u : Unresolved) → Standings b us → get_elem? us i ≡ some u → Standing (b + i) u
  standing [] b i u s e = clash (cc)
  standing (v ∷ us) b zero u s e =
      let f : v ≡ u = cc in
      let z : b + 0 ≡ b = omega arith in
      rw (z, ← f) s.0
  standing (v ∷ us) b (suc i) u s e =
      let z : b + suc i ≡ suc b + i = omega arith in
      rw z (standing us (suc b) i u s.1 e)

  -- the first piece of a value has its place
  first_piece : (ps : Pieces) (i end b : ℕ) → Filled ps → PiecesAt g h lo hi Any i end ps
      → (first_place (number_pieces b ps).0 ≡ g (8 * i + 6)) × (i < end)
  unfolding number_node
  first_piece no_pieces i end b f s = absurd f
  first_piece (node_piece place gap n ps) i end b f s = let y = s.0.0 in let x = s.0.1 in (sym s.2, omega arith)
  first_piece (substituted gap r ps) i end b f s = let y = s.0.0 in let x = s.0.1 in (sym s.2, omega arith)

  -- Q of the pieces of every unresolved value
  abbrev pub Holding : Type 0
  Holding = (j b : ℕ) (ps : Pieces) → j + g (8 * j + 1) ≤ items → suc b ≡ eights g (j + 1)
      → PiecesAt g h lo hi Any (j + 1) (j + g (8 * j + 1)) ps → Simples ps → AllPieces AsRead ps → Q j (number_pieces (suc b) ps).0

  module _ (q : Holding) where
    mutual
      unfolding number_node in_node

      pub standings-node : (n : Node) (openness : Openness) (role j b : ℕ) → Apart role → Fits role n → j + g (8 * j + 1) ≤ items → b ≡ eights g j
          → NodeAt g h lo hi Any role j n → AllNode AsRead n → Standings b (in_node openness (number_node b n).0)
      standings-node (simple x) openness role j b p f l e s a = tt
      standings-node (array es) openness role j b p f l e s a =
          let c = past g h lo hi j b (λ z. p 6 (omega arith) (sym s.0 ∙ z)) e in
          standings-elements es (j + 1) (j + g (8 * j + 1)) b l c s.1 a
      standings-node (object fs) openness role j b p f l e s a =
          let c = past g h lo hi j b (λ z. p 7 (omega arith) (sym s.0 ∙ z)) e in
          standings-fields fs openness no_fields (j + 1) (j + g (8 * j + 1)) b l c s.1 a
      standings-node (unresolved _ ps) openness role j b p f l e s a =
          let k : g (8 * j) ≡ 8 = omega (arith, s.0, f) in
          let c = past_one g h lo hi j b k e in
          let t = first_piece ps (j + 1) (j + g (8 * j + 1)) (suc b) a.0.0 s.2 in
          let m : j + 1 < j + g (8 * j + 1) = t.1 in (
            record {
              item = j;
              inside = omega arith;
              kind = k;
              number = e;
              place = t.0;
              pieces = q j b ps l c s.2 a.0.1 a.1;
            },
            standings-pieces ps (j + 1) (j + g (8 * j + 1)) (suc b) l c s.2 a.0.1 a.1,
          )

      pub standings-elements : (es : Elements) (i end b : ℕ) → end ≤ items → b ≡ eights g i → ElementsAt g h lo hi Any i end es
          → AllElements AsRead es → Standings b (in_elements (number_elements b es).0)
      standings-elements no-elements i end b l e s a = tt
      standings-elements (element n es) i end b l e s a =
          let j = s.0 in
          let x : j + g (8 * j + 1) ≤ end = s.2.1 in
          let d = behind-seams g h lo hi i j b e s.1 in
          let c = counts-node g h lo hi n 0 j b member_apart (member-fits n) d s.3 a.0 in
          let (n', m) = number_node b n in
          join (in_node none n') (in_elements (number_elements m es).0) b m (count-node b n none)
          (standings-node n none 0 j b member_apart (member-fits n) (omega arith) d s.3 a.0)
          (standings-elements es (j + g (8 * j + 1)) end m l c s.4 a.1)

      pub standings-fields : (fs : Fields) (openness : Openness) (earlier : Fields) (i end b : ℕ) → end ≤ items → b ≡ eights g i
          → FieldsAt g h lo hi Any i end fs → AllFields AsRead fs → Standings b (in_fields (number_fields b fs).0 openness earlier)
      standings-fields no_fields openness earlier i end b l e s a = tt
      standings-fields (field key n fs) openness earlier i end b l e s a =
          let j = s.0 in
          let x : j + g (8 * j + 1) ≤ end = s.2.1 in
          let d = behind-seams g h lo hi i j b e s.1 in
          let c = counts-node g h lo hi n 0 j b member_apart (member-fits n) d s.5 a.0 in
          let (n', m) = number_node b n in
          let inner = field_openness openness earlier key in
          join (in_node inner n') (in_fields (number_fields m fs).0 openness (with_field earlier key n')) b m (count-node b n inner)
          (standings-node n inner 0 j b member_apart (member-fits n) (omega arith) d s.5 a.0)
          (standings-fields fs openness (with_field earlier key n') (j + g (8 * j + 1)) end m l c s.6 a.1)

      pub standings-pieces : (ps : Pieces) (i end b : ℕ) → end ≤ items → b ≡ eights g i → PiecesAt g h lo hi Any i end ps → Simples ps
          → AllPieces AsRead ps → Standings b (in_pieces (number_pieces b ps).0)
      standings-pieces no_pieces i end b l e s p a = tt
      standings-pieces (node_piece place gap n ps) i end b l e s p a =
          let x : i + g (8 * i + 1) ≤ end = s.0.1 in
          let f = piece-fits place gap n ps p in
          let c = counts-node g h lo hi n 16 i b piece-apart f.0 e s.3 a.0 in
          let (n', m) = number_node b n in
          join (in_node none n') (in_pieces (number_pieces m ps).0) b m (count-node b n none)
          (standings-node n none 16 i b piece-apart f.0 (omega arith) e s.3 a.0)
          (standings-pieces ps (i + g (8 * i + 1)) end m l c s.4 f.1 a.1)
      standings-pieces (substituted gap x ps) i end b l e s p a =
          standings-pieces ps (i + g (8 * i + 1)) end b l (past-reference g h lo hi i b x s.3 s.4 e) s.5 p a
