-- The pieces of every listed unresolved value of a document that was read are as they were read: numbers change nothing of that.
use Rattle.std.specs.Prelude.{◌≡◌, refl, ℕ, suc, List, [], Bool, ◌&&◌, leb, length}
use Rattle.std.proofs.Math.Option.{some}
use Rattle.std.proofs.Math.ListN.{get_elem?}
use Rattle.rules.specs.Sizes.{max_unresolved, max_document}
use Rattle.rules.specs.Refusals.{Read, got, refused}
use Rattle.rules.specs.Environment.{Environment, entries_of, text_of}
use Rattle.rules.specs.Tree.{Node, simple, array, object, unresolved, Elements, no-elements, element, Fields, no_fields, field, Pieces, no_pieces, node_piece, substituted, Root, fields, elements, root_node, AllNode, AllElements, AllFields, AllPieces, number_node, number_elements, number_fields, number_pieces, number_root}
use Rattle.rules.specs.Layers.{end}
use Rattle.rules.specs.Unresolved.{Unresolved, unresolved_in}
use Rattle.rules.specs.Documents.{Document, Setting, Input, valid, limited, of_root, with_environment, read_tree, read_document, inputs}
use Rattle.theory_text.specs.Choices.{by-option, by-test}
use Rattle.theory.specs.Reach.{Each, each_at}
use Rattle.theory.specs.FirstBytes.{IfGiven, is-given, not-given, of-given}
use Rattle.theory_weights.specs.Numbered.{Of, listed-elements, listed-fields}
use Rattle.doc_items.specs.Joining.{Simples}
use Rattle.read_numbering.specs.Clauses.{Filled, PathsFit, AsRead}
use Rattle.read_numbering.specs.Reading.{as_read}

-- of any number
abbrev Whole : Pieces → Type 0
Whole ps = Filled ps × Simples ps × PathsFit ps

-- ---- with numbers

mutual
  unfolding number_node

  filled-numbered : (b : ℕ) (ps : Pieces) → Filled ps → Filled (number_pieces b ps).0
  filled-numbered b no_pieces f = f
  filled-numbered b (node_piece place gap n ps) f = tt
  filled-numbered b (substituted gap x ps) f = tt

  simples-numbered : (b : ℕ) (ps : Pieces) → Simples ps → Simples (number_pieces b ps).0
  simples-numbered b no_pieces f = tt
  simples-numbered b (node_piece place gap (simple x) ps) f = simples-numbered b ps f
  simples-numbered b (node_piece place gap (array es) ps) f = simples-numbered (number_elements b es).1 ps f
  simples-numbered b (node_piece place gap (object fs) ps) f = simples-numbered (number_fields b fs).1 ps f
  simples-numbered b (node_piece place gap (unresolved c qs) ps) f = absurd f
  simples-numbered b (substituted gap x ps) f = simples-numbered b ps f

  paths-numbered : (b : ℕ) (ps : Pieces) → PathsFit ps → PathsFit (number_pieces b ps).0
  paths-numbered b no_pieces f = tt
  paths-numbered b (node_piece place gap n ps) f = paths-numbered (number_node b n).1 ps f
  paths-numbered b (substituted gap x ps) f = (f.0, paths-numbered b ps f.1)

  whole-node : (b : ℕ) (n : Node) → AllNode (λ c ps. Whole ps) n → AllNode (λ c ps. Whole ps) (number_node b n).0
  whole-node b (simple x) a = tt
  whole-node b (array es) a = whole-elements b es a
  whole-node b (object fs) a = whole_fields b fs a
  whole-node b (unresolved c ps) a =
      ((filled-numbered (suc b) ps a.0.0, simples-numbered (suc b) ps a.0.1, paths-numbered (suc b) ps a.0.2), whole-pieces (suc b) ps a.1)

  whole-elements : (b : ℕ) (es : Elements) → AllElements (λ c ps. Whole ps) es → AllElements (λ c ps. Whole ps) (number_elements b es).0
  whole-elements b no-elements a = tt
  whole-elements b (element n es) a = (whole-node b n a.0, whole-elements (number_node b n).1 es a.1)

  whole_fields : (b : ℕ) (fs : Fields) → AllFields (λ c ps. Whole ps) fs → AllFields (λ c ps. Whole ps) (number_fields b fs).0
  whole_fields b no_fields a = tt
  whole_fields b (field k n fs) a = (whole-node b n a.0, whole_fields (number_node b n).1 fs a.1)

  whole-pieces : (b : ℕ) (ps : Pieces) → AllPieces (λ c ps. Whole ps) ps → AllPieces (λ c ps. Whole ps) (number_pieces b ps).0
  whole-pieces b no_pieces a = tt
  whole-pieces b (node_piece place gap n ps) a = (whole-node b n a.0, whole-pieces (number_node b n).1 ps a.1)
  whole-pieces b (substituted gap x ps) a = whole-pieces b ps a

-- ---- as they are listed

listed-root : (r : Root) → AllNode (λ c ps. Whole ps) (root_node r) → Each (Of Whole) (unresolved_in (number_root r))
unfolding unresolved_in number_node
listed-root (fields fs) a = listed-fields Whole (number_fields 0 fs).0 (some (record { path = []; before = end })) no_fields (whole_fields 0 fs a)
listed-root (elements es) a = listed-elements Whole (number_elements 0 es).0 (whole-elements 0 es a)

abbrev AllWhole : Document → Type 0
AllWhole d = Each (Of Whole) d.unresolved

root-given : (m : Read Root) → ((r : Root) (at items : ℕ) → m ≡ got r at items → AllNode AsRead (root_node r)) → IfGiven AllWhole (of_root m)
unfolding of_root limited
root-given (refused x) f = not-given
root-given (got r at items) f =
    by-option (IfGiven AllWhole) (get_elem? (unresolved_in (number_root r)) max_unresolved)
    (λ e. is-given (listed-root r (f r at items refl))) (λ u e. not-given)

document-given : (s : List ℕ) → IfGiven AllWhole (read_document s)
unfolding read_document
document-given s = root-given (read_tree s 1 0) (λ r at items h. as_read s 1 0 r at items h)

abbrev WholeSetting : Setting → Type 0
WholeSetting x = AllWhole x.document

setting-given : (env : Environment) {m : Input Document} → IfGiven AllWhole m → IfGiven WholeSetting (with_environment env m)
setting-given env (is-given h) = is-given h
setting-given env not-given = not-given

inputs-given : (others : Bool) (document environment : List ℕ) → IfGiven WholeSetting (inputs others document environment)
unfolding inputs
inputs-given others document environment =
    by-test (IfGiven WholeSetting) (others && leb (length document) max_document)
    (λ e. by-option (IfGiven WholeSetting) (entries_of environment) (λ f. not-given) (λ es f. setting-given (text_of es) (document-given document)))
    (λ e. not-given)

-- the unresolved value numbered b
pub listed-as-read : (others : Bool) (document environment : List ℕ) (x : Setting) → inputs others document environment ≡ valid x
    → (b : ℕ) (u : Unresolved) → get_elem? x.document.unresolved b ≡ some u → AsRead b u.pieces
listed-as-read others document environment x e b u h =
    each_at (Of Whole) x.document.unresolved (of-given (rw e at (inputs-given others document environment))) b u h
