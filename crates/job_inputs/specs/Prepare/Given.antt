-- A setting that a job's inputs gave, and what is known of its unresolved values: each has a piece, and none of its pieces is unresolved itself.
use Rattle.std.specs.Prelude.{◌≡◌, refl, Bool, ◌&&◌, List, [], ℕ, suc, ◌≤◌, leb, length}
use Rattle.std.proofs.Math.Option.{some}
use Rattle.std.proofs.Math.ListN.{get_elem?}
use Rattle.answers.specs.Theory.Sound.{clash}
use Rattle.rules.specs.Sizes.{max_document, max_unresolved}
use Rattle.rules.specs.Refusals.{Read, got, refused}
use Rattle.rules.specs.Environment.{Environment, entries_of, text_of}
use Rattle.rules.specs.Tree.{Node, simple, array, object, unresolved, Elements, no-elements, element, Fields, no_fields, field, Pieces, no_pieces, node_piece, substituted}
use Rattle.rules.specs.Tree.{Root, fields, elements, root_node, number_node, number_elements, number_fields, number_pieces, number_root, AllNode, AllElements, AllFields, AllPieces}
use Rattle.rules.specs.Layers.{end}
use Rattle.rules.specs.Unresolved.{Unresolved, Openness, field_openness, with_field, in_node, in_elements, in_fields, in_pieces, unresolved_in}
use Rattle.rules.specs.Documents.{Document, Setting, Input, valid, limited, of_root, read_tree, read_document, with_environment, inputs}
use Rattle.theory_text.specs.Choices.{by-test, by-option}
use Rattle.theory.specs.FirstBytes.{IfGiven, is-given, not-given, of-given}
use Rattle.theory.specs.JobRefusals.{Bounds, bad, good, bounds}
use Rattle.theory.specs.Numbering.{Prepared, prepared, all-node}
use Rattle.theory.specs.Reach.{Each, each_append, each_at}
use Rattle.doc_items.specs.Joining.{Simples}
use Rattle.read_numbering.specs.Clauses.{Filled}
use Rattle.read_numbering.specs.Reading.{as_read}

pub record Given (x : Setting) : Type 0 where
  -- whether the job's other inputs keep their bounds
  pub others : Bool
  pub document : List ℕ
  pub environment : List ℕ
  pub is : inputs others document environment ≡ valid x

-- there is a piece, and none is unresolved itself
abbrev Plain : ℕ → Pieces → Type 0
Plain b ps = Filled ps × Simples ps

-- ---- numbering leaves pieces as they were read

number-filled : (b : ℕ) (ps : Pieces) → Filled ps → Filled (number_pieces b ps).0
unfolding number_node
number-filled b no_pieces f = f
number-filled b (node_piece place gap n ps) f = tt
number-filled b (substituted gap x ps) f = tt

number-simples : (b : ℕ) (ps : Pieces) → Simples ps → Simples (number_pieces b ps).0
unfolding number_node
number-simples b no_pieces s = tt
number-simples b (node_piece place gap (simple x) ps) s = number-simples b ps s
number-simples b (node_piece place gap (array es) ps) s = number-simples (number_elements b es).1 ps s
number-simples b (node_piece place gap (object fs) ps) s = number-simples (number_fields b fs).1 ps s
number-simples b (node_piece place gap (unresolved c qs) ps) s = absurd s
number-simples b (substituted gap x ps) s = number-simples b ps s

mutual
  unfolding number_node

  number-node : (b : ℕ) (n : Node) → AllNode Plain n → AllNode Plain (number_node b n).0
  number-node b (simple x) a = tt
  number-node b (array es) a = number-elements b es a
  number-node b (object fs) a = number-fields b fs a
  number-node b (unresolved c ps) a =
      ((number-filled (suc b) ps a.0.0, number-simples (suc b) ps a.0.1), number-pieces (suc b) ps a.1)

  number-elements : (b : ℕ) (es : Elements) → AllElements Plain es → AllElements Plain (number_elements b es).0
  number-elements b no-elements a = tt
  number-elements b (element n es) a = (number-node b n a.0, number-elements (number_node b n).1 es a.1)

  number-fields : (b : ℕ) (fs : Fields) → AllFields Plain fs → AllFields Plain (number_fields b fs).0
  number-fields b no_fields a = tt
  number-fields b (field k n fs) a = (number-node b n a.0, number-fields (number_node b n).1 fs a.1)

  number-pieces : (b : ℕ) (ps : Pieces) → AllPieces Plain ps → AllPieces Plain (number_pieces b ps).0
  number-pieces b no_pieces a = tt
  number-pieces b (node_piece place gap n ps) a = (number-node b n a.0, number-pieces (number_node b n).1 ps a.1)
  number-pieces b (substituted gap x ps) a = number-pieces b ps a

-- ---- so each in the document's list

abbrev pub PiecesRead : Unresolved → Type 0
PiecesRead u = Filled u.pieces × Simples u.pieces

mutual
  unfolding in_node

  in-node : (openness : Openness) (n : Node) → AllNode Plain n → Each PiecesRead (in_node openness n)
  in-node openness (simple x) a = tt
  in-node openness (array es) a = in-elements es a
  in-node openness (object fs) a = in-fields fs openness no_fields a
  in-node openness (unresolved b ps) a = (a.0, in-pieces ps a.1)

  in-elements : (es : Elements) → AllElements Plain es → Each PiecesRead (in_elements es)
  in-elements no-elements a = tt
  in-elements (element n es) a = each_append PiecesRead (in_node _ n) (in_elements es) (in-node _ n a.0) (in-elements es a.1)

  in-fields : (fs : Fields) (openness : Openness) (earlier : Fields) → AllFields Plain fs → Each PiecesRead (in_fields fs openness earlier)
  in-fields no_fields openness earlier a = tt
  in-fields (field k n fs) openness earlier a =
      let inner = field_openness openness earlier k in
      each_append PiecesRead (in_node inner n) (in_fields fs openness (with_field earlier k n)) (in-node inner n a.0) (in-fields fs openness (with_field earlier k n) a.1)

  in-pieces : (ps : Pieces) → AllPieces Plain ps → Each PiecesRead (in_pieces ps)
  in-pieces no_pieces a = tt
  in-pieces (node_piece place gap n ps) a = each_append PiecesRead (in_node _ n) (in_pieces ps) (in-node _ n a.0) (in-pieces ps a.1)
  in-pieces (substituted gap x ps) a = in-pieces ps a

in-root : (r : Root) → AllNode Plain (root_node r) → Each PiecesRead (unresolved_in r)
unfolding unresolved_in
in-root (fields fs) a = in-fields fs (some (record { path = []; before = end })) no_fields a
in-root (elements es) a = in-elements es a

number-root : (r : Root) → AllNode Plain (root_node r) → AllNode Plain (root_node (number_root r))
unfolding number_node
number-root (fields fs) a = number-fields 0 fs a
number-root (elements es) a = number-elements 0 es a

-- ---- documents and settings

abbrev AllRead : Document → Type 0
AllRead d = Each PiecesRead d.unresolved

root-given : (m : Read Root) → ((r : Root) (at items : ℕ) → m ≡ got r at items → AllNode Plain (root_node r)) → IfGiven AllRead (of_root m)
unfolding of_root limited
root-given (got r at items) f =
    by-option (IfGiven AllRead) (get_elem? (unresolved_in (number_root r)) max_unresolved)
    (λ e. is-given (in-root (number_root r) (number-root r (f r at items refl)))) (λ u e. not-given)
root-given (refused x) f = not-given

document-given : (s : List ℕ) → IfGiven AllRead (read_document s)
unfolding read_document
document-given s = root-given (read_tree s 1 0) (λ r at items e. all-node (λ b ps a. (a.0, a.1)) (root_node r) (as_read s 1 0 r at items e))

setting-given : (env : Environment) {m : Input Document} → IfGiven AllRead m → IfGiven {A = Setting} (λ x. AllRead x.document) (with_environment env m)
setting-given env (is-given h) = is-given h
setting-given env not-given = not-given

inputs-given : (others : Bool) (document environment : List ℕ) → IfGiven {A = Setting} (λ x. AllRead x.document) (inputs others document environment)
unfolding inputs
inputs-given others document environment =
    by-test (IfGiven {A = Setting} (λ x. AllRead x.document)) (others && leb (length document) max_document)
    (λ e. by-option (IfGiven {A = Setting} (λ x. AllRead x.document)) (entries_of environment) (λ f. not-given) (λ es f.
    setting-given (text_of es) (document-given document)))
    (λ e. not-given)

module _ {x : Setting} (g : Given x) where
  pub given-prepared : Prepared x.document
  given-prepared = prepared g.others g.document g.environment x g.is

  pub given-short : length g.document ≤ max_document
  given-short = go (bounds g.others g.document g.environment)
    where
      go : Bounds g.others g.document g.environment → length g.document ≤ max_document
      go (bad e n) = clash (cc g.is)
      go (good t i f) = i.0

  -- the pieces of an unresolved value: there is one at least, and none is unresolved itself
  pub given-pieces : (b : ℕ) (u : Unresolved) → get_elem? x.document.unresolved b ≡ some u → PiecesRead u
  given-pieces b u e =
      each_at PiecesRead x.document.unresolved (of-given (rw g.is at (inputs-given g.others g.document g.environment))) b u e
