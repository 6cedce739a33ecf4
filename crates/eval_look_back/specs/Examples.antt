-- `a = ${a}` as its items: the root, the field, which is unresolved, and its piece. So what look-back asks of a table can be had.
use Rattle.std.specs.Prelude.{◌≡◌, refl, ℕ, List, [], ◌∷◌, false, get_or}
use Rattle.std.proofs.Common.{arith}
use Rattle.rules.specs.Bytes.{Text, same}
use Rattle.rules.specs.Tree.{unresolved, no_fields, field, Pieces, no_pieces, substituted, Root, fields}
use Rattle.rules.specs.Unresolved.{with_field}
use Rattle.doc_items.specs.Codes.{path_texts, path_ends}
use Rattle.doc_items.specs.Parts.{numbers}
use Rattle.theory_back.specs.Descent.{count_node, down_node}
use Rattle.theory_back.specs.LookBack.{next_key, onward}
use Rattle.theory_back.specs.Passes.{looks_back}
use Rattle.eval_look_back.specs.Ranges.{PiecesIn}
use Rattle.eval_look_back.specs.Clauses.{AskedAt, own_of}

abbrev items : List ℕ
items =
    7 ∷ 3 ∷ 0 ∷ 0 ∷ 0 ∷ 0 ∷ 0 ∷ 0
    ∷ 8 ∷ 2 ∷ 0 ∷ 1 ∷ 0 ∷ 0 ∷ 0 ∷ 0
    ∷ 25 ∷ 1 ∷ 1 ∷ 0 ∷ 1 ∷ 1 ∷ 4 ∷ 1 ∷ []

-- the key, then the path: its one element, and its end in two bytes
abbrev bytes : ℕ → ℕ
bytes k = get_or (97 ∷ 97 ∷ 0 ∷ 1 ∷ []) k 0

abbrev a : Text
a = 97 ∷ []

abbrev pieces : Pieces
pieces = substituted [] (record { place = 4; optional = false; path = a ∷ [] }) no_pieces

abbrev root : Root
root = fields (field (record { text = a; place = 0 }) (unresolved 0 pieces) no_fields)

piece : PiecesIn (numbers items) bytes 0 4 1 2 3 pieces
unfolding path_texts path_ends
piece = (
  (omega arith, omega arith),
  record { from = omega arith; upto = omega arith; size = refl; bytes = tt },
  refl,
  record {
    kind = refl;
    count = refl;
    size = refl;
    path = record { from = omega arith; upto = omega arith; size = refl; bytes = (refl, (refl, (refl, tt))) };
  },
  refl,
  refl,
)

example : AskedAt items 1 bytes 0 4 1 root
example = record {
  shown = (
    refl,
    (
      1,
      (omega arith, λ k a b. absurd (omega arith)),
      (omega arith, omega arith),
      record { from = omega arith; upto = omega arith; size = refl; bytes = (refl, tt) },
      refl,
      (refl, (refl, omega arith), piece),
      (omega arith, λ k a b. absurd (omega arith)),
    ),
  );
  from = ((refl, tt), tt);
  kind = refl;
  inside = omega arith;
}

-- `${a}` there looks back over one element
looks : own_of (looks_back root (a ∷ []) 0) ≡ 1
unfolding down_node count_node with_field onward next_key same
looks = refl
