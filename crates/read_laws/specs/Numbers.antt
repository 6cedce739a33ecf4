-- What the promises of reading say of each refusal, number by number: what any code that keeps them answers. No code is here.
use Rattle.std.specs.Prelude.{Result, Ok, ◌≡◌, refl, ℕ, false, List}
use Rattle.std.proofs.Common.{ap, ◌∙◌}
use Rattle.std.proofs.Math.Option.{some}
use Rattle.std.proofs.Math.ListN.{get_elem?}
use Rattle.rules.specs.Sizes.{max_unresolved}
use Rattle.rules.specs.Refusals.{Refusal, placed, got, refused}
use Rattle.rules.specs.Utf8.{ill_formed}
use Rattle.rules.specs.Tree.{Root, number_root}
use Rattle.rules.specs.Unresolved.{Unresolved, unresolved_in}
use Rattle.rules.specs.Documents.{Document, refused, limited, of_root, read_tree, read_document, inputs}
use Rattle.text_chars.specs.declared.Refusal.{Refusal as Refused}
use Rattle.read_documents.specs.Trees.{TreeIs}
use Rattle.read_documents.specs.declared.Counters.{Counters}
use Rattle.read_documents.specs.Clauses.{Told, reading_told, DocumentIs, InputsIs}
use Rattle.read_documents.specs.declared.Reading.{Reading}

-- the answer that refuses by a number at a place
abbrev refusal : (number place : ℕ) → Told
refusal number place = record { number = number; place = place; items = 0; unresolved = 0 }

-- ---- what the rules read

by-tree : (s : List ℕ) → read_document s ≡ of_root (read_tree s 1 0)
unfolding read_document
by-tree s = refl

of-refused : (x : Refusal) → of_root (refused x) ≡ refused x
unfolding of_root
of-refused x = refl

document-ill : (s : List ℕ) (place : ℕ) → ill_formed s ≡ some place → read_document s ≡ refused (placed 2 place)
unfolding read_tree
document-ill s place e = by-tree s ∙ ap of_root (tree e) ∙ of-refused (placed 2 place)
  where
    tree : ill_formed s ≡ some place → read_tree s 1 0 ≡ refused (placed 2 place)
    tree e = rw (e, read_tree)

abbrev with_numbers : Root → Document
with_numbers root = record { root = number_root root; unresolved = unresolved_in (number_root root) }

of-got : (root : Root) (end items : ℕ) → of_root (got root end items) ≡ limited (with_numbers root)
unfolding of_root
of-got root end items = refl

over-limit : (d : Document) (u : Unresolved) → get_elem? d.unresolved max_unresolved ≡ some u → limited d ≡ refused (placed 8 u.place)
unfolding limited
over-limit d u e = rw (e, limited)

-- ---- inputs and documents

-- "1 an input over its bytes or against its rule", which has no place
pub bounds-are-1 : {s e table text table' text' : List ℕ} {r : Result Reading Refused} → InputsIs false s e table text table' text' r
    → reading_told r ≡ refusal 1 0
unfolding inputs
bounds-are-1 h = h.answer

-- "2 ill-formed UTF-8", before anything is read
pub ill-formed-is-2 : {s table text table' text' : List ℕ} {r : Result Reading Refused} (place : ℕ) → ill_formed s ≡ some place
    → DocumentIs s table text table' text' r
    → reading_told r ≡ refusal 2 place
ill-formed-is-2 {s} place e h = h.answer ∙ rw (document-ill s place e) refl

-- "8 .. too many unresolved values", at the first one over the limit
pub excess-is-8 : {s table text table' text' : List ℕ} {r : Result Reading Refused} (root : Root) (end items : ℕ) (u : Unresolved)
    → read_tree s 1 0 ≡ got root end items
    → get_elem? (unresolved_in (number_root root)) max_unresolved ≡ some u
    → DocumentIs s table text table' text' r
    → reading_told r ≡ refusal 8 u.place
excess-is-8 {s} root end items u e f h =
    let q : read_document s ≡ refused (placed 8 u.place) =
    by-tree s ∙ ap of_root e ∙ of-got root end items ∙ over-limit (with_numbers root) u f in
    h.answer ∙ rw q refl

-- ---- trees

-- behind a document as many nestings are left as before it, and the items are those that the rules counted on from the ones before
pub counters-go-on : {s table text table' text' : List ℕ} {c d : Counters} → TreeIs s c table text table' text' (Ok d)
    → d.left ≡ c.left
counters-go-on h = h.is.3
