-- Places that rise, and the first bytes of a tree's unresolved values in preorder.
use Rattle.std.specs.Prelude.{◌≡◌, refl, ℕ, suc, ◌≤◌, List, [], ◌∷◌, ◌++◌, map}
use Rattle.std.proofs.lemmas.List.{map-append}
use Rattle.std.proofs.Math.Option.{none}
use Rattle.std.proofs.Common.{arith}
use Rattle.rules.specs.Tree.{Node, simple, array, object, unresolved, Elements, no-elements, element, Fields, no_fields, field, Pieces, no_pieces, node_piece, substituted, Root, fields, elements, first_place, number_node, number_elements, number_fields, number_pieces, number_root}
use Rattle.rules.specs.Unresolved.{Unresolved, Openness, field_openness, with_field, in_node, in_elements, in_fields, in_pieces, unresolved_in}
use Rattle.rules.specs.Documents.{Rising}

-- ---- places that rise strictly, from a place on and before an end

abbrev pub Ordered : ℕ → ℕ → List ℕ → Type 0
Ordered from end [] = from ≤ end
Ordered from end (x ∷ xs) = (from ≤ x) × Ordered (suc x) end xs

pub ordered-from : (p q end : ℕ) (xs : List ℕ) → p ≤ q → Ordered q end xs → Ordered p end xs
ordered-from p q end [] h k = omega arith
ordered-from p q end (x ∷ xs) h k = (omega (arith, k.0), k.1)

pub ordered-to : (from p q : ℕ) (xs : List ℕ) → p ≤ q → Ordered from p xs → Ordered from q xs
ordered-to from p q [] h k = omega arith
ordered-to from p q (x ∷ xs) h k = (k.0, ordered-to (suc x) p q xs h k.1)

pub ordered-forward : (from end : ℕ) (xs : List ℕ) → Ordered from end xs → from ≤ end
ordered-forward from end [] k = k
ordered-forward from end (x ∷ xs) k = omega (arith, k.0, ordered-forward (suc x) end xs k.1)

pub ordered-append : (from mid end : ℕ) (xs ys : List ℕ) → Ordered from mid xs → Ordered mid end ys → Ordered from end (xs ++ ys)
ordered-append from mid end [] ys h k = ordered-from from mid end ys h k
ordered-append from mid end (x ∷ xs) ys h k = (h.0, ordered-append (suc x) mid end xs ys h.1 k)

pub ordered-rises : (from end : ℕ) (xs : List ℕ) → Ordered from end xs → Rising xs
ordered-rises from end [] h = tt
ordered-rises from end (x ∷ []) h = tt
ordered-rises from end (x ∷ (y ∷ xs)) h = (h.1.0, ordered-rises (suc x) end (y ∷ xs) h.1)

-- ---- the first bytes of the unresolved values of a node, in preorder

unfoldable mutual
  pub places_node : Node → List ℕ
  places_node (simple x) = []
  places_node (array es) = places_elements es
  places_node (object fs) = places_fields fs
  places_node (unresolved b ps) = first_place ps ∷ places_pieces ps

  pub places_elements : Elements → List ℕ
  places_elements no-elements = []
  places_elements (element n es) = places_node n ++ places_elements es

  pub places_fields : Fields → List ℕ
  places_fields no_fields = []
  places_fields (field k n fs) = places_node n ++ places_fields fs

  pub places_pieces : Pieces → List ℕ
  places_pieces no_pieces = []
  places_pieces (node_piece place gap n ps) = places_node n ++ places_pieces ps
  places_pieces (substituted gap x ps) = places_pieces ps

unfoldable pub places_root : Root → List ℕ
unfolding places_node
places_root (fields fs) = places_fields fs
places_root (elements es) = places_elements es

-- ---- the list of a document's unresolved values has these places: numbering changes none

pub record StandAt (us : List Unresolved) (ps : List ℕ) : Type 0 where
  pub places : map (λ u. u.place) us ≡ ps

first-place : (b : ℕ) (ps : Pieces) → first_place (number_pieces b ps).0 ≡ first_place ps
unfolding number_node
first-place b no_pieces = refl
first-place b (node_piece place gap n ps) = refl
first-place b (substituted gap x ps) = refl

stand-none : StandAt [] []
stand-none = record { places = refl }

stand-both : {xs ys : List Unresolved} {p q : List ℕ} → StandAt xs p → StandAt ys q → StandAt (xs ++ ys) (p ++ q)
stand-both {xs} {ys} h k = record { places = cc (map-append (λ (u : Unresolved). u.place) xs ys, h.places, k.places) }

stand-first : (openness : Openness) (b : ℕ) (ps : Pieces) {us : List Unresolved} {xs : List ℕ} → StandAt us xs
    → StandAt (record { place = first_place (number_pieces b ps).0; pieces = (number_pieces b ps).0; openness = openness } ∷ us) (first_place ps ∷ xs)
stand-first openness b ps h = record { places = cc (first-place b ps, h.places) }

mutual
  unfolding number_node in_node places_node

  listed-node : (b : ℕ) (n : Node) (openness : Openness) → StandAt (in_node openness (number_node b n).0) (places_node n)
  listed-node b (simple x) openness = stand-none
  listed-node b (array es) openness = listed-elements b es
  listed-node b (object fs) openness = listed-fields b fs openness no_fields
  listed-node b (unresolved _ ps) openness = stand-first openness (suc b) ps (listed-pieces (suc b) ps)

  listed-elements : (b : ℕ) (es : Elements) → StandAt (in_elements (number_elements b es).0) (places_elements es)
  listed-elements b no-elements = stand-none
  listed-elements b (element n es) = stand-both (listed-node b n none) (listed-elements (number_node b n).1 es)

  listed-fields : (b : ℕ) (fs : Fields) (openness : Openness) (earlier : Fields)
      → StandAt (in_fields (number_fields b fs).0 openness earlier) (places_fields fs)
  listed-fields b no_fields openness earlier = stand-none
  listed-fields b (field k n fs) openness earlier =
      let (n', c) = number_node b n in
      stand-both (listed-node b n (field_openness openness earlier k)) (listed-fields c fs openness (with_field earlier k n'))

  listed-pieces : (b : ℕ) (ps : Pieces) → StandAt (in_pieces (number_pieces b ps).0) (places_pieces ps)
  listed-pieces b no_pieces = stand-none
  listed-pieces b (node_piece place gap n ps) = stand-both (listed-node b n none) (listed-pieces (number_node b n).1 ps)
  listed-pieces b (substituted gap x ps) = listed-pieces b ps

pub listed-root : (r : Root) → StandAt (unresolved_in (number_root r)) (places_root r)
unfolding number_node unresolved_in places_root
listed-root (fields fs) = listed-fields 0 fs _ no_fields
listed-root (elements es) = listed-elements 0 es
