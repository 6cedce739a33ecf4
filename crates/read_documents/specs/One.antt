-- A table and a text part hold one document at most.
use Rattle.std.specs.Prelude.{◌≡◌, ℕ, ◌+◌, ◌*◌, List, length}
use Rattle.std.proofs.Common.{ap}
use Rattle.answers.specs.Theory.Sound.{clash}
use Rattle.rules.specs.Tree.{Root, fields, elements, root_node}
use Rattle.rules.specs.Documents.{Document}
use Rattle.doc_items.specs.Parts.{numbers, letters}
use Rattle.doc_items.specs.Unique.{node-one}
use Rattle.read_documents.specs.Clauses.{Stands}

root-one : (r t : Root) → root_node r ≡ root_node t → r ≡ t
root-one (fields fs) (fields gs) e = ap fields (cc (e))
root-one (elements es) (elements ds) e = ap elements (cc (e))
root-one (fields fs) (elements es) e = clash (cc (e))
root-one (elements es) (fields fs) e = clash (cc (e))

pub one-document : {s table text : List ℕ} {items n items' n' : ℕ} {d d' : Document} → Stands s table text items n d → Stands s table text items' n' d'
    → d.root ≡ d'.root
one-document {s} {table} {text} {items} {n} {items'} {n'} {d} {d'} a b =
    let g = numbers table in
    root-one d.root d'.root
    (node-one g (letters 0 text) 0 (2 * length s) (root_node d.root) (root_node d'.root) 0 (g 0) (g 4) (g 5) (g 7) 1 (0 + g 1) a.root b.root)
