-- The openness of an unresolved value by going down to it, and what the list of all of them gives it. That the two are the same is shown in
-- proofs/Openness.antt.
use Rattle.std.specs.Prelude.{◌≡◌, refl, ℕ, suc, List, [], length}
use Rattle.std.proofs.Common.{ap, arith, length-append}
use Rattle.std.proofs.Math.Option.{Option, none, some}
use Rattle.std.proofs.Math.ListN.{get_elem?}
use Rattle.rules.specs.Tree.{Node, simple, array, object, unresolved, Elements, no-elements, element, Fields, no_fields, field, Pieces, no_pieces, node_piece, substituted, Root, fields, elements, root_node}
use Rattle.rules.specs.Layers.{end}
use Rattle.rules.specs.Unresolved.{Unresolved, Openness, field_openness, with_field, in_node, in_elements, in_fields, in_pieces, unresolved_in}
use Rattle.theory_back.specs.Descent.{count_node, count_elements, count_fields, count_pieces, down_node, down_fields}

-- the root object has the empty path and no layers below it; a root that is an array is closed
abbrev pub root_openness : Openness
root_openness = some (record { path = []; before = end })

abbrev pub openness_node : Openness → ℕ → Node → ℕ → Openness
openness_node = down_node none field_openness

abbrev pub openness_fields : Openness → Fields → ℕ → Fields → ℕ → Openness
openness_fields = down_fields none field_openness

abbrev pub openness_at : Root → ℕ → Openness
openness_at root b = openness_node root_openness 0 (root_node root) b

-- ---- counts are lengths

mutual
  unfolding in_node count_node

  pub length-node : (openness : Openness) (n : Node) → length (in_node openness n) ≡ count_node n
  length-node openness (simple x) = refl
  length-node openness (array es) = length-elements es
  length-node openness (object fs) = length_fields fs openness no_fields
  length-node openness (unresolved b ps) = ap suc (length-pieces ps)

  pub length-elements : (es : Elements) → length (in_elements es) ≡ count_elements es
  length-elements no-elements = refl
  length-elements (element n es) =
      omega (arith, length-append (in_node none n) (in_elements es), length-node none n, length-elements es)

  pub length_fields : (fs : Fields) (openness : Openness) (earlier : Fields) → length (in_fields fs openness earlier) ≡ count_fields fs
  length_fields no_fields openness earlier = refl
  length_fields (field k n fs) openness earlier =
      let inner = field_openness openness earlier k in
      let rest = in_fields fs openness (with_field earlier k n) in
      omega (arith, length-append (in_node inner n) rest, length-node inner n, length_fields fs openness (with_field earlier k n))

  pub length-pieces : (ps : Pieces) → length (in_pieces ps) ≡ count_pieces ps
  length-pieces no_pieces = refl
  length-pieces (node_piece place gap n ps) =
      omega (arith, length-append (in_node none n) (in_pieces ps), length-node none n, length-pieces ps)
  length-pieces (substituted gap x ps) = length-pieces ps

pub length-root : (root : Root) → length (unresolved_in root) ≡ count_node (root_node root)
unfolding unresolved_in count_node
length-root (fields fs) = length_fields fs root_openness no_fields
length-root (elements es) = length-elements es

-- ---- the openness of the i-th of a list; past the end there is none

abbrev pub openness_of : Option Unresolved → Openness
openness_of none = none
openness_of (some u) = u.openness

abbrev pub openness_in : List Unresolved → ℕ → Openness
openness_in l i = openness_of (get_elem? l i)
