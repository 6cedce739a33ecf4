-- The path of every substitution in a document that was read has 1 to 16 elements, in the list of its unresolved values too.
use Rattle.std.specs.Prelude.{◌≡◌, refl, ℕ, suc, List, []}
use Rattle.std.proofs.Math.Option.{none, some}
use Rattle.std.proofs.Math.ListN.{get_elem?}
use Rattle.rules.specs.Sizes.{max_unresolved}
use Rattle.rules.specs.Refusals.{Read, got, refused}
use Rattle.rules.specs.Tree.{Node, simple, array, object, unresolved, Elements, no-elements, element, Fields, no_fields, field, Pieces, no_pieces, node_piece, substituted, Root, fields, elements, root_node, AllNode, AllElements, AllFields, AllPieces, number_node, number_elements, number_fields, number_pieces, number_root}
use Rattle.rules.specs.Layers.{end}
use Rattle.rules.specs.Unresolved.{Unresolved, Openness, field_openness, with_field, in_node, in_elements, in_fields, in_pieces, unresolved_in}
use Rattle.rules.specs.Documents.{Document, valid, limited, of_root, read_tree, read_document}
use Rattle.theory_text.specs.Choices.{by-option}
use Rattle.theory.specs.Numbering.{all-node}
use Rattle.theory.specs.Reach.{Each, each_append, each_at}
use Rattle.theory.specs.FirstBytes.{IfGiven, is-given, not-given, of-given}
use Rattle.read_numbering.specs.Clauses.{PathsFit, AsRead}
use Rattle.read_numbering.specs.Reading.{as_read}

abbrev Fit : ℕ → Pieces → Type 0
Fit b ps = PathsFit ps

-- a number more or less changes no path
mutual
  unfolding number_node

  paths-numbered : (b : ℕ) (ps : Pieces) → PathsFit ps → PathsFit (number_pieces b ps).0
  paths-numbered b no_pieces f = tt
  paths-numbered b (node_piece place gap n ps) f = paths-numbered (number_node b n).1 ps f
  paths-numbered b (substituted gap x ps) f = (f.0, paths-numbered b ps f.1)

  fit-node : (b : ℕ) (n : Node) → AllNode Fit n → AllNode Fit (number_node b n).0
  fit-node b (simple x) a = tt
  fit-node b (array es) a = fit-elements b es a
  fit-node b (object fs) a = fit-fields b fs a
  fit-node b (unresolved c ps) a = (paths-numbered (suc b) ps a.0, fit-pieces (suc b) ps a.1)

  fit-elements : (b : ℕ) (es : Elements) → AllElements Fit es → AllElements Fit (number_elements b es).0
  fit-elements b no-elements a = tt
  fit-elements b (element n es) a = (fit-node b n a.0, fit-elements (number_node b n).1 es a.1)

  fit-fields : (b : ℕ) (fs : Fields) → AllFields Fit fs → AllFields Fit (number_fields b fs).0
  fit-fields b no_fields a = tt
  fit-fields b (field k n fs) a = (fit-node b n a.0, fit-fields (number_node b n).1 fs a.1)

  fit-pieces : (b : ℕ) (ps : Pieces) → AllPieces Fit ps → AllPieces Fit (number_pieces b ps).0
  fit-pieces b no_pieces a = tt
  fit-pieces b (node_piece place gap n ps) a = (fit-node b n a.0, fit-pieces (number_node b n).1 ps a.1)
  fit-pieces b (substituted gap x ps) a = fit-pieces b ps a

-- ---- the list of them

abbrev Listed : Unresolved → Type 0
Listed u = PathsFit u.pieces

mutual
  unfolding in_node

  listed-node : (openness : Openness) (n : Node) → AllNode Fit n → Each Listed (in_node openness n)
  listed-node openness (simple x) a = tt
  listed-node openness (array es) a = listed-elements es a
  listed-node openness (object fs) a = listed-fields fs openness no_fields a
  listed-node openness (unresolved b ps) a = (a.0, listed-pieces ps a.1)

  listed-elements : (es : Elements) → AllElements Fit es → Each Listed (in_elements es)
  listed-elements no-elements a = tt
  listed-elements (element n es) a = each_append Listed (in_node none n) (in_elements es) (listed-node none n a.0) (listed-elements es a.1)

  listed-fields : (fs : Fields) (openness : Openness) (earlier : Fields) → AllFields Fit fs → Each Listed (in_fields fs openness earlier)
  listed-fields no_fields openness earlier a = tt
  listed-fields (field k n fs) openness earlier a =
      each_append Listed (in_node (field_openness openness earlier k) n) (in_fields fs openness (with_field earlier k n))
      (listed-node (field_openness openness earlier k) n a.0) (listed-fields fs openness (with_field earlier k n) a.1)

  listed-pieces : (ps : Pieces) → AllPieces Fit ps → Each Listed (in_pieces ps)
  listed-pieces no_pieces a = tt
  listed-pieces (node_piece place gap n ps) a = each_append Listed (in_node none n) (in_pieces ps) (listed-node none n a.0) (listed-pieces ps a.1)
  listed-pieces (substituted gap x ps) a = listed-pieces ps a

listed-root : (r : Root) → AllNode Fit (root_node r) → Each Listed (unresolved_in (number_root r))
unfolding unresolved_in number_node
listed-root (fields fs) a = listed-fields (number_fields 0 fs).0 (some (record { path = []; before = end })) no_fields (fit-fields 0 fs a)
listed-root (elements es) a = listed-elements (number_elements 0 es).0 (fit-elements 0 es a)

-- ---- documents

abbrev AllFit : Document → Type 0
AllFit d = Each Listed d.unresolved

root-fits : (m : Read Root) → ((r : Root) (at items : ℕ) → m ≡ got r at items → AllNode AsRead (root_node r)) → IfGiven AllFit (of_root m)
unfolding of_root limited
root-fits (refused x) f = not-given
root-fits (got r at items) f =
    by-option (IfGiven AllFit) (get_elem? (unresolved_in (number_root r)) max_unresolved)
    (λ e. is-given (listed-root r (all-node (λ b ps a. a.2) (root_node r) (f r at items refl)))) (λ u e. not-given)

-- the unresolved value numbered b
pub paths-fit : (s : List ℕ) (d : Document) → read_document s ≡ valid d → (b : ℕ) (u : Unresolved) → get_elem? d.unresolved b ≡ some u
    → PathsFit u.pieces
unfolding read_document
paths-fit s d e b u g =
    each_at Listed d.unresolved (of-given (rw e at (root-fits (read_tree s 1 0) (λ r at items h. as_read s 1 0 r at items h)))) b u g
