-- The openness of an unresolved value by going down to it: it is what the list of all of them gives it.
use Rattle.std.specs.Prelude.{◌≡◌, refl, ℕ, zero, suc, ◌+◌, ◌≤◌, ◌<◌, List, [], ◌∷◌, ◌++◌, Bool, true, false, ltb, eqb, length}
use Rattle.std.proofs.Common.{sym, ap, ◌∙◌, arith, ltb-true, ltb-false, eqb-true}
use Rattle.std.proofs.Math.Option.{none, some}
use Rattle.std.proofs.Math.ListN.{get_elem?}
use Rattle.rules.specs.Tree.{Node, simple, array, object, unresolved, Elements, no-elements, element, Fields, no_fields, field, Pieces, no_pieces, node_piece, substituted, Root, fields, elements, root_node}
use Rattle.rules.specs.Unresolved.{Unresolved, Openness, field_openness, with_field, in_node, in_elements, in_fields, in_pieces, unresolved_in}
use Rattle.theory_back.specs.Descent.{count_node, down_node, down-here}
use Rattle.theory_back.specs.Openness.{root_openness, openness_node, openness_fields, openness_at, length-node, length-root, openness_of, openness_in}

left-openness : (xs ys : List Unresolved) (i : ℕ) → i < length xs → openness_in (xs ++ ys) i ≡ openness_in xs i
left-openness [] ys i h = absurd (omega arith)
left-openness (x ∷ xs) ys zero h = refl
left-openness (x ∷ xs) ys (suc i) h = left-openness xs ys i (omega arith)

right-openness : (xs ys : List Unresolved) (i j : ℕ) → i ≡ length xs + j → openness_in (xs ++ ys) i ≡ openness_in ys j
right-openness [] ys i j e = let here : i ≡ j = omega (arith, e) in ap (openness_in ys) here
right-openness (x ∷ xs) ys zero j e = absurd (omega (arith, e))
right-openness (x ∷ xs) ys (suc i) j e = right-openness xs ys i j (omega (arith, e))

-- none of a list is open
abbrev AllClosed : List Unresolved → Type 0
AllClosed l = (i : ℕ) → openness_in l i ≡ none

closed-append : (xs ys : List Unresolved) → AllClosed xs → AllClosed ys → AllClosed (xs ++ ys)
closed-append [] ys f g i = g i
closed-append (x ∷ xs) ys f g zero = f zero
closed-append (x ∷ xs) ys f g (suc i) = closed-append xs ys (λ j. f (suc j)) g i

-- in closed objects, arrays and pieces there are none
mutual
  unfolding in_node field_openness

  closed-node : (n : Node) → AllClosed (in_node none n)
  closed-node (simple x) i = refl
  closed-node (array es) i = closed-elements es i
  closed-node (object fs) i = closed-fields fs no_fields i
  closed-node (unresolved b ps) zero = refl
  closed-node (unresolved b ps) (suc i) = closed-pieces ps i

  closed-elements : (es : Elements) → AllClosed (in_elements es)
  closed-elements no-elements i = refl
  closed-elements (element n es) i = closed-append (in_node none n) (in_elements es) (λ j. closed-node n j) (λ j. closed-elements es j) i

  closed-fields : (fs : Fields) (earlier : Fields) → AllClosed (in_fields fs none earlier)
  closed-fields no_fields earlier i = refl
  closed-fields (field k n fs) earlier i =
      closed-append (in_node none n) (in_fields fs none (with_field earlier k n))
      (λ j. closed-node n j) (λ j. closed-fields fs (with_field earlier k n) j) i

  closed-pieces : (ps : Pieces) → AllClosed (in_pieces ps)
  closed-pieces no_pieces i = refl
  closed-pieces (node_piece place gap n ps) i = closed-append (in_node none n) (in_pieces ps) (λ j. closed-node n j) (λ j. closed-pieces ps j) i
  closed-pieces (substituted gap x ps) i = closed-pieces ps i

-- ---- the descent finds the list's

-- what a sum leaves
left_over : (c i : ℕ) → c ≤ i → (j : ℕ) × (i ≡ c + j)
left_over zero i h = (i, omega arith)
left_over (suc c) zero h = absurd (omega arith)
left_over (suc c) (suc i) h = let (j, e) = left_over c i (omega arith) in (j, omega (arith, e))

mutual
  unfolding down_node in_node

  pub openness-node : (openness : Openness) (from : ℕ) (n : Node) (i : ℕ) → openness_node openness from n (from + i) ≡ openness_in (in_node openness n) i
  openness-node openness from (simple x) i = refl
  openness-node openness from (array es) i = sym (closed-elements es i)
  openness-node openness from (object fs) i = openness-fields openness no_fields from fs i
  openness-node openness from (unresolved c ps) zero = let here : from + 0 ≡ from = omega arith in rw here (down-here none field_openness openness from c ps)
  openness-node openness from (unresolved c ps) (suc i) = go (eqb (from + suc i) from) refl
    where
      go : (t : Bool) → eqb (from + suc i) from ≡ t → ◌≡◌ {A = Openness} (elim t [ true ↦ openness | false ↦ none ]) (openness_in (in_pieces ps) i)
      go true e = absurd (omega (arith, eqb-true (from + suc i) from e))
      go false e = sym (closed-pieces ps i)

  pub openness-fields : (openness : Openness) (earlier : Fields) (from : ℕ) (fs : Fields) (i : ℕ)
      → openness_fields openness earlier from fs (from + i) ≡ openness_in (in_fields fs openness earlier) i
  openness-fields openness earlier from no_fields i = refl
  openness-fields openness earlier from (field k n fs) i =
      go (ltb (from + i) (from + count_node n)) refl (openness-node inner from n i) (openness-fields openness (with_field earlier k n) (from + count_node n) fs)
    where
      inner : Openness
      inner = field_openness openness earlier k

      rest : List Unresolved
      rest = in_fields fs openness (with_field earlier k n)

      go : (t : Bool) → ltb (from + i) (from + count_node n) ≡ t
          → openness_node inner from n (from + i) ≡ openness_in (in_node inner n) i
          → ((j : ℕ) → openness_fields openness (with_field earlier k n) (from + count_node n) fs (from + count_node n + j) ≡ openness_in rest j)
          → ◌≡◌ {A = Openness} (elim t [
            | true ↦ openness_node inner from n (from + i)
            | false ↦ openness_fields openness (with_field earlier k n) (from + count_node n) fs (from + i)
          ]) (openness_in (in_node inner n ++ rest) i)
      go true e f g =
          f ∙ sym (left-openness (in_node inner n) rest i (omega (arith, ltb-true (from + i) (from + count_node n) e, length-node inner n)))
      go false e f g =
          let (j, q) = left_over (count_node n) i (omega (arith, ltb-false (from + i) (from + count_node n) e)) in
          let there : from + i ≡ from + count_node n + j = omega (arith, q) in
          let here : i ≡ length (in_node inner n) + j = omega (arith, q, length-node inner n) in
          ap (openness_fields openness (with_field earlier k n) (from + count_node n) fs) there
          ∙ g j ∙ sym (right-openness (in_node inner n) rest i j here)

-- of every number
pub openness-root : (root : Root) (b : ℕ) → openness_at root b ≡ openness_in (unresolved_in root) b
unfolding down_node unresolved_in
openness-root (fields fs) b =
    let here : b ≡ 0 + b = omega arith in
    ap (openness_fields root_openness no_fields 0 fs) here ∙ openness-fields root_openness no_fields 0 fs b
openness-root (elements es) b = sym (closed-elements es b)

-- the b-th of them
pub openness-of : (root : Root) (b : ℕ) (u : Unresolved) → get_elem? (unresolved_in root) b ≡ some u → openness_at root b ≡ u.openness
openness-of root b u e = openness-root root b ∙ ap openness_of e

-- and there is one for each number below the count
there-is : {A : Type 0} (l : List A) (b : ℕ) → b < length l → (u : A) × (get_elem? l b ≡ some u)
there-is [] b h = absurd (omega arith)
there-is (u ∷ l) zero h = (u, refl)
there-is (u ∷ l) (suc b) h = there-is l b (omega arith)

pub openness-below : (root : Root) (b : ℕ) → b < count_node (root_node root)
    → (u : Unresolved) × (get_elem? (unresolved_in root) b ≡ some u) × (openness_at root b ≡ u.openness)
openness-below root b h =
    let (u, e) = there-is (unresolved_in root) b (omega (arith, length-root root)) in
    (u, e, openness-of root b u e)
