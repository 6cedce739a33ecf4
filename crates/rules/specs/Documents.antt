-- A document as the rules see it: its root and its unresolved values, in the order of their numbers.
use Rattle.std.specs.Prelude.{ℕ, ◌<◌, List, [], ◌∷◌, Bool, true, false, ◌&&◌, leb, length}
use Rattle.std.proofs.Math.Option.{none, some}
use Rattle.std.proofs.Math.ListN.{get_elem?}
use Rattle.answers.specs.Ask.{Ask}
use Rattle.rules.specs.Sizes.{max_document, max_unresolved}
use Rattle.rules.specs.Refusals.{Refusal, placed, nowhere, spent, Read, got}
use Rattle.rules.specs.Utf8.{ill_formed}
use Rattle.rules.specs.Environment.{Environment, entries_of, text_of}
use Rattle.rules.specs.Tree.{Root, number_node, number_root}
use Rattle.rules.specs.Reading.{read_root}
use Rattle.rules.specs.Values.{Answer}
use Rattle.rules.specs.Layers.{Work}
use Rattle.rules.specs.Unresolved.{Unresolved, unresolved_in, answer_of}

pub record Document : Type 0 where
  pub root : Root
  pub unresolved : List Unresolved

-- what an input gives, or its refusal
pub data Input (A : Type 0) : Type 0 where
  valid : A → Input A
  refused : Refusal → Input A

-- "the limit on blends after the whole document": the first one too many by first byte
unfoldable pub limited : Document → Input Document
limited d = elim (get_elem? d.unresolved max_unresolved) [ none ↦ valid d | some u ↦ refused (placed 8 u.place) ]

unfoldable pub of_root : Read Root → Input Document
unfolding number_node unresolved_in limited
of_root (Read.refused x) = refused x
of_root (got r at items) = let n = number_root r in limited (record { root = n; unresolved = unresolved_in n })

-- "2 over the whole input, then reading left to right"
unfoldable pub read_tree : (s : List ℕ) (nesting items : ℕ) → Read Root
unfolding ill_formed read_root
read_tree s nesting items = elim (ill_formed s) [ some place ↦ Read.refused (placed 2 place) | none ↦ read_root s nesting items ]

-- "Nesting 32 (the root is 1)", and no items before it
unfoldable pub read_document : List ℕ → Input Document
unfolding read_tree of_root
read_document s = of_root (read_tree s 1 0)

-- A document with the environment it is read in.
pub record Setting : Type 0 where
  pub document : Document
  pub environment : Environment

abbrev pub with_environment : Environment → Input Document → Input Setting
with_environment env (valid d) = valid (record { document = d; environment = env })
with_environment env (refused x) = refused x

-- "Order: 1, then 2 over the whole input, then reading left to right": `others` says whether the job's other inputs keep their bounds
unfoldable pub inputs : (others : Bool) (document environment : List ℕ) → Input Setting
unfolding entries_of text_of read_document
inputs others document environment =
    elim (others && leb (length document) max_document) [
      | false ↦ refused (nowhere 1)
      | true ↦ elim (entries_of environment) [
        | none ↦ refused (nowhere 1)
        | some es ↦ with_environment (text_of es) (read_document document)
      ]
    ]

-- what the rules give the unresolved value of a number; there are none past the last
unfoldable pub rule_of : Setting → ℕ → Work Answer
unfolding answer_of
rule_of x b =
    elim (get_elem? x.document.unresolved b) [
      | none ↦ Ask.refused spent
      | some u ↦ answer_of x.document.root x.environment u.openness u.pieces
    ]

abbrev pub count_of : Setting → ℕ
count_of x = length x.document.unresolved

-- the first byte of the unresolved value of a number
unfoldable pub first_byte : Setting → ℕ → ℕ
first_byte x b = elim (get_elem? x.document.unresolved b) [ none ↦ 0 | some u ↦ u.place ]

-- places each less than the next, as the first bytes of unresolved values are in the order of their numbers
abbrev pub Rising : List ℕ → Type 0
Rising [] = Unit {0}
Rising (x ∷ []) = Unit {0}
Rising (x ∷ (y ∷ xs)) = (x < y) × Rising (y ∷ xs)
