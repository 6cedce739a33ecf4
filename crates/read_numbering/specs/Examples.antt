-- `[${a}]` as its items: the root, the element, which is unresolved, and its piece. So what the pass asks of a numbers can be had.
use Rattle.std.specs.Prelude.{◌≡◌, refl, ℕ, List, [], ◌∷◌, false, get_or, length}
use Rattle.std.proofs.Common.{arith}
use Rattle.rules.specs.Tree.{Substitution, unresolved, no-elements, element, no_pieces, substituted, Root, elements, number_node, number_root}
use Rattle.rules.specs.Unresolved.{unresolved_in}
use Rattle.doc_items.specs.Codes.{path_texts, path_ends}
use Rattle.doc_items.specs.Holds.{PiecesAt}
use Rattle.doc_items.specs.Parts.{numbers}
use Rattle.read_numbering.specs.Clauses.{WithoutNumbers}

abbrev items : List ℕ
items =
    6 ∷ 3 ∷ 0 ∷ 0 ∷ 0 ∷ 0 ∷ 0 ∷ 0
    ∷ 8 ∷ 2 ∷ 0 ∷ 0 ∷ 0 ∷ 0 ∷ 0 ∷ 0
    ∷ 25 ∷ 1 ∷ 2 ∷ 0 ∷ 2 ∷ 1 ∷ 1 ∷ 1 ∷ []

-- the path's text part, from 2 on: its one element, and its end in two bytes
abbrev text : List ℕ
text = 0 ∷ 0 ∷ 97 ∷ 0 ∷ 1 ∷ []

abbrev a : Substitution
a = record { place = 1; optional = false; path = (97 ∷ []) ∷ [] }

abbrev root : Root
root = elements (element (unresolved 0 (substituted [] a no_pieces)) no-elements)

piece : PiecesAt (numbers items) (λ k. get_or text k 0) 0 5 (λ m b. Unit {0}) 2 3 (substituted [] a no_pieces)
unfolding path_texts path_ends
piece = (
  (omega arith, omega arith),
  record { from = omega arith; upto = omega arith; size = refl; bytes = tt },
  refl,
  record {
    kind = refl;
    count = refl;
    size = refl;
    path = record { from = omega arith; upto = omega arith; size = refl; bytes = (refl, (refl, (refl, tt))) };
  },
  refl,
  refl,
)

example : WithoutNumbers items 3 (λ k. get_or text k 0) 0 5 root
example = record {
  shown = (refl, (1, (omega arith, λ k a b. absurd (omega arith)), (omega arith, omega arith), (refl, tt, piece), (omega arith, λ k a b. absurd (omega arith))));
  whole = refl;
  read = (((tt, tt, ((omega arith, omega arith), tt)), tt), tt);
}

-- and the rules have one unresolved value there
one-unresolved : length (unresolved_in (number_root root)) ≡ 1
unfolding number_node unresolved_in
one-unresolved = refl
