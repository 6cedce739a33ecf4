-- What the functions on the pieces of a value promise, by the rules' definitions.
use Rattle.std.specs.Prelude.{◌≡◌, ℕ, suc, ◌+◌, ◌*◌, ◌≤◌, ◌<◌, Bool, true, false, []}
use Rattle.std.proofs.Math.Option.{Option, none, some}
use Rattle.rules.specs.Sizes.{max_items}
use Rattle.rules.specs.Bytes.{Text}
use Rattle.rules.specs.Pieces.{scalar_text}
use Rattle.rules.specs.Refusals.{placed, got, refused}
use Rattle.rules.specs.Tree.{Scalar, Node, simple, array, object, unresolved, Pieces, no_pieces, node_piece, substituted}
use Rattle.rules.specs.Reading.{Part, node, substitution, with_part, simple_kind, array_kind, object_kind, kind_of, has_substitution, unlike, text_joined, elements_joined, fields_joined, judge_value}
use Rattle.doc_items.specs.Codes.{code_of, reference_code}
use Rattle.doc_items.specs.Joining.{Simples, join_pieces}
use Rattle.read_values.specs.declared.Run.{Run}
use Rattle.read_values.specs.declared.Outcome.{Outcome}

-- more pieces than a value can have, so that their count never wraps
abbrev pub piece_room : ℕ
piece_room = 2 * max_items

-- the kind of a piece, which is never an unresolved value itself
abbrev pub KindIs : ℕ → Part → Type 0
KindIs k (node (simple x)) = k ≡ code_of x
KindIs k (node (array es)) = k ≡ 6
KindIs k (node (object fs)) = k ≡ 7
KindIs k (node (unresolved b ps)) = ⊥
KindIs k (substitution x) = k ≡ reference_code x.optional

unfoldable pub piece_count : Pieces → ℕ
piece_count no_pieces = 0
piece_count (node_piece place gap n ps) = suc (piece_count ps)
piece_count (substituted gap x ps) = suc (piece_count ps)

-- a value begins with its first piece: no whitespace stands before it
abbrev pub FirstIs : Pieces → ℕ → Type 0
FirstIs no_pieces k = Unit {0}
FirstIs (node_piece place gap n qs) k = (gap ≡ []) × KindIs k (node n)
FirstIs (substituted gap x qs) k = (gap ≡ []) × KindIs k (substitution x)

abbrev pub odd_place : Run → Option ℕ
odd_place run = elim run.odd [ true ↦ some run.place.0 | false ↦ none ]

-- of a value that begins with a substitution nothing is told: its kinds are not compared
abbrev pub OddIs : Pieces → Run → Type 0
OddIs no_pieces run = run.odd ≡ false
OddIs (node_piece place gap n qs) run = odd_place run ≡ unlike (kind_of n) (node_piece place gap n qs)
OddIs (substituted gap x qs) run = Unit {0}

-- the numbers tell of these pieces
pub record RunOf (run : Run) (ps : Pieces) : Type 0 where
  pub count : run.count ≡ piece_count ps
  pub first : FirstIs ps run.kind
  pub subs : run.subs ≡ has_substitution ps
  pub odd : OddIs ps run
  pub plain : Simples ps

-- the kinds 1 to 5 are alike
pub record GroupIs (k r : ℕ) : Type 0 where
  pub low : k ≤ 5 → r ≡ 5
  pub high : 5 < k → r ≡ k

pub record AddIs (run : Run) (k place : ℕ) (r : Run) : Type 0 where
  pub is : (ps : Pieces) (gap : Text) (part : Part) → RunOf run ps → KindIs k part → (run.count ≡ 0 → gap ≡ [])
      → RunOf r (join_pieces ps (with_part place gap part no_pieces))
  pub count : r.count ≡ run.count + 1

-- the node that pieces come to, by its kind, and whether it is a simple value
pub data Comes (ps : Pieces) : ℕ → Bool → Node → Type 0 where
  plain : (x : Scalar) → scalar_text x ≡ text_joined ps → has_substitution ps ≡ false → unlike simple_kind ps ≡ none
      → Comes ps (code_of x) true (simple x)
  list : has_substitution ps ≡ false → unlike array_kind ps ≡ none → Comes ps 6 false (array (elements_joined ps))
  members : has_substitution ps ≡ false → unlike object_kind ps ≡ none → Comes ps 7 false (object (fields_joined ps))
  deferred : Comes ps 8 false (unresolved 0 ps)

abbrev pub Judged : Pieces → Outcome → Type 0
Judged ps Outcome.Nothing = ps ≡ no_pieces
Judged ps (Outcome.Mixed place) = (at items : ℕ) → judge_value ps at items ≡ refused (placed 11 place.0)
Judged ps (Outcome.Value k b) = (n : Node) × Comes ps k b n × ((at items : ℕ) → judge_value ps at items ≡ got n at items)

pub record JudgeIs (run : Run) (r : Outcome) : Type 0 where
  pub is : (ps : Pieces) → RunOf run ps → Judged ps r

-- the start
pub start-run : (x : Run) → x.count ≡ 0 → x.subs ≡ false → x.odd ≡ false → RunOf x no_pieces
unfolding piece_count has_substitution
start-run x c s o = record { count = c; first = tt; subs = s; odd = o; plain = tt }
