-- The numbers of a tree that was read; documents; inputs.
use Rattle.std.specs.Prelude.{Result, Ok, Err}
use mathlib.Core.Path.{◌≡◌, refl, sym, ap, ◌∙◌}
use mathlib.Core.Bool.{Bool, true, false}
use mathlib.Core.List.{List}
use mathlib.Core.Option.{none, some}
use Prim.Native.Nat.{ℕ, ◌+◌, ◌*◌, ◌-◌, ◌≤◌}
use native.Mathlib.Omega.{arith}
use lib.ListN.{length, get_elem?}
use Rattle.doc_items.specs.Room.{table_room, text_room}
use Rattle.rules.specs.Sizes.{max_nesting, max_items}
use Rattle.rules.specs.Refusals.{Refusal, placed, nowhere, got, refused}
use Rattle.rules.specs.Environment.{text_of}
use Rattle.rules.specs.Tree.{Root, number_root, number_node}
use Rattle.rules.specs.Unresolved.{Unresolved, unresolved_in}
use Rattle.rules.specs.Documents.{Document, valid, refused, limited, of_root, read_tree, read_document, with_environment, inputs}
use Rattle.theory.specs.FirstBytes.{first-byte-order}
use Rattle.text_chars.specs.Cursor.{doc, refusal}
use Rattle.read_documents.specs.Bounds.{FitsIs}
use Rattle.doc_items.specs.Parts.{letters}
use Rattle.read_numbering.specs.Clauses.{CountIs, WithNumbers, NumberIs}
use Rattle.read_numbering.specs.Reading.{as_read}
use Rattle.read_documents.specs.Trees.{ScratchAsked, TreeAt, TreeAs, TreeIs}
use Rattle.read_documents.specs.Clauses.{items_of, reading_told, input_told, ReadAs, NumberTreeIs, DocumentAsked, DocumentIs, InputsAs, InputsIs}
use Rattle.read_documents.specs.declared.Counters.{Counters}
use Rattle.text_chars.specs.declared.Refusal.{Refusal as Refused}
use Rattle.read_documents.specs.declared.Reading.{Reading}

-- ---- the numbers

abbrev document_of : Root → Document
unfolding number_node
document_of r = record { root = number_root r; unresolved = unresolved_in (number_root r) }

limited-given : (d : Document) → get_elem? d.unresolved 256 ≡ none → limited d ≡ valid d
unfolding limited
limited-given d e = rw (e, limited)

limited-denied : (d : Document) (u : Unresolved) → get_elem? d.unresolved 256 ≡ some u → limited d ≡ refused (placed 8 u.place)
unfolding limited
limited-denied d u e = rw (e, limited)

by-tree : (s : List ℕ) → read_document s ≡ of_root (read_tree s 1 0)
unfolding read_document
by-tree s = refl

of-got : (r : Root) (end items : ℕ) → of_root (got r end items) ≡ limited (record { root = number_root r; unresolved = unresolved_in (number_root r) })
unfolding of_root
of-got r end items = refl

of-rejected : (x : Refusal) → of_root (refused x) ≡ refused x
unfolding of_root
of-rejected x = refl

module _ {s : List ℕ} {items : ℕ} {table table' : List ℕ} {r : Result ℕ Refused} (h : NumberIs table (items + 1) table' r) where
  module _ (text : List ℕ) (root : Root) (end : ℕ) (q : read_tree s 1 0 ≡ got root end items) (m : TreeAt s table text 0 items root) where
    d : Document
    d = record { root = number_root root; unresolved = unresolved_in (number_root root) }

    counted-as : CountIs table' (items + 1) (letters 0 text) 0 (2 * length s) r (number_root root)
    counted-as =
        h.is root (letters 0 text) 0 (2 * length s) (record { shown = m.shown; whole = omega (arith, m.whole); read = as_read s 1 0 root end items q })

    here : read_document s ≡ limited d
    unfolding d
    here = by-tree s ∙ ap of_root q ∙ of-got root end items

    done : {c : ℕ} → r ≡ Ok c → ReadAs s (read_document s) table' text (Ok (record { items = items; unresolved = c }))
    unfolding d
    done {c} e =
        let n : WithNumbers table' (items + 1) (letters 0 text) 0 (2 * length s) c (number_root root) = rw e at counted-as in
        let g : read_document s ≡ valid d = here ∙ limited-given d n.few in (
          d,
          g,
          record {
            root = n.shown;
            whole = n.whole;
            few = m.few;
            items-are = sym (ap items_of q);
            unresolved-are = n.count;
            index = n.indexed;
            order = first-byte-order s d g;
          },
        )

    excess : {y : Refused} → r ≡ Err y → ReadAs s (read_document s) table' text (Err y)
    unfolding d
    excess {y} e =
        let n : CountIs table' (items + 1) (letters 0 text) 0 (2 * length s) (Err y) (number_root root) = rw e at counted-as in
        (placed 8 n.0.place, here ∙ limited-denied d n.0 n.1, n.2, n.3)

  pub counted-done : {c : ℕ} → r ≡ Ok c → NumberTreeIs s items table table' (Ok (record { items = items; unresolved = c }))
  counted-done e = record { is = λ text root end q m. done text root end q m e; kept = h.same }

  pub counted-excess : {y : Refused} → r ≡ Err y → NumberTreeIs s items table table' (Err y)
  counted-excess e = record { is = λ text root end q m. excess text root end q m e; kept = h.same }

pub ruleset counts = (counted-done, counted-excess)

-- ---- documents

-- what an answer says is an equation
told : (s x t : List ℕ) (r : Result Reading Refused) → ReadAs s (read_document s) x t r
    → reading_told r ≡ input_told (λ d. d) (read_document s) (items_of (read_tree s 1 0))
told s x t (Ok v) u = rw (u.1, u.2.items-are, u.2.unresolved-are) refl
told s x t (Err y) u = rw (u.1, u.2, u.3) refl

document-of : {s table text x t : List ℕ} {r : Result Reading Refused} → ReadAs s (read_document s) x t r → length x ≡ length table → length t ≡ length text
    → DocumentIs s table text x t r
document-of {s} {table} {text} {x} {t} {r} u a b = record { answer = told s x t r u; is = u; kept_table = a; kept-text = b }

told-inputs : (others : Bool) (s e x t : List ℕ) (r : Result Reading Refused) → InputsAs others s e x t r
    → reading_told r ≡ input_told (λ y. y.document) (inputs others s e) (items_of (read_tree s 1 0))
told-inputs others s e x t (Ok v) u = rw (u.1, u.2.items-are, u.2.unresolved-are) refl
told-inputs others s e x t (Err y) u = rw (u.1, u.2, u.3) refl

inputs-of : {others : Bool} {s e table text x t : List ℕ} {r : Result Reading Refused} → InputsAs others s e x t r → length x ≡ length table → length t ≡ length text
    → InputsIs others s e table text x t r
inputs-of {others} {s} {e} {table} {text} {x} {t} {r} u a b = record { answer = told-inputs others s e x t r u; is = u; kept_table = a; kept-text = b }

pub document-scratch : {s table text : List ℕ} → DocumentAsked s table text → ScratchAsked s 0 (max_nesting - 1) 0 table text
document-scratch a = record {
  short = a.short;
  inside = omega arith;
  nested = omega arith;
  few = omega arith;
  table-room = omega (arith, a.table-room);
  text-room = a.text-room;
}

module _ {s table text x t : List ℕ} {r : Result Counters Refused} (m : TreeIs s (record { left = max_nesting - 1; items = 0 }) table text x t r) where
  pub document-refused : {y : Refused} → r ≡ Err y → DocumentIs s table text x t (Err y)
  document-refused {y} q =
      let u : TreeAs s (record { left = max_nesting - 1; items = 0 }) x t (Err y) = rw q at m.is in
      document-of (u.0, by-tree s ∙ ap of_root u.1 ∙ of-rejected u.0, u.2, u.3) m.kept_table m.kept-text

  module _ {c : Counters} (q : r ≡ Ok c) where
    read : TreeAs s (record { left = max_nesting - 1; items = 0 }) x t (Ok c)
    read = rw q at m.is

    pub document-few : c.items ≤ max_items
    document-few = read.4.few

    pub document-done : {x' : List ℕ} {v : Result Reading Refused} → NumberTreeIs s c.items x x' v → DocumentIs s table text x' t v
    document-done w = document-of (w.is t read.0 read.1 read.2 read.4) (w.kept ∙ m.kept_table) m.kept-text

  pub document-room : DocumentAsked s table text → table_room ≤ length x
  document-room a = omega (arith, a.table-room, m.kept_table)

pub ruleset whole-documents = (document-scratch, document-refused, document-few, document-done, document-room)

-- ---- inputs

module _ {others : Bool} {s e : List ℕ} {b : Bool} (f : FitsIs others s e b) where
  pub inputs-unfit : {table text : List ℕ} → b ≡ false → InputsIs others s e table text table text (Err (refusal 1 (doc 0)))
  inputs-unfit q = inputs-of (nowhere 1, f.no q, refl, refl) refl refl

  module _ (q : b ≡ true) where
    pub inputs-scratch : {table text : List ℕ} → table_room ≤ length table → text_room ≤ length text → DocumentAsked s table text
    inputs-scratch m n = record { short = f.short q; table-room = m; text-room = omega (arith, f.short q) }

    pub inputs-done : {table text x t : List ℕ} {r : Result Reading Refused} → DocumentIs s table text x t r → InputsIs others s e table text x t r
    inputs-done {table} {text} {x} {t} {r} m = inputs-of (go r refl) m.kept_table m.kept-text
      where
        go : (w : Result Reading Refused) → r ≡ w → InputsAs others s e x t w
        go (Ok v) g =
            let u : ReadAs s (read_document s) x t (Ok v) = rw g at m.is in
            let y = f.yes q in (
              record { document = u.0; environment = text_of y.0 },
              y.2 ∙ ap (with_environment (text_of y.0)) u.1,
              u.2,
              (y.0, y.1, refl),
            )
        go (Err d) g =
            let u : ReadAs s (read_document s) x t (Err d) = rw g at m.is in
            let y = f.yes q in
            (u.0, y.2 ∙ ap (with_environment (text_of y.0)) u.1, u.2, u.3)

pub ruleset all-inputs = (inputs-unfit, inputs-scratch, inputs-done)
