-- Numbers that show layers: an item's number shows the node that stands there, the capacity and an offset more shows the finished value whose
-- records stand there.
use Rattle.std.specs.Prelude.{◌≡◌, ℕ, suc, ◌+◌, ◌*◌, ◌%◌, ◌≤◌, ◌<◌, ◌⊎◌, true, false, eqb, length}
use Rattle.std.proofs.Math.Path.{refl}
use Rattle.std.proofs.Common.{ap, ◌∙◌, inl, inr}
use mathlib.Core.List.{List, [], ◌∷◌, reverse, reverse_aux}
use Rattle.std.proofs.Math.Option.{Option, none, some}
use native.Mathlib.Omega.{arith}
use Rattle.std.proofs.Math.ListN.{get_or}
use borrow.Author.Tests.{lt-ltb, le-ltb, eq-eqb, ne_eqb}
use Rattle.rules.specs.Bytes.{Text, same}
use Rattle.rules.specs.Tree.{Scalar, null, boolean, number, string, Node, simple, array, object, unresolved, Pieces}
use Rattle.rules.specs.Values.{Value, Answer}
use Rattle.rules.specs.Layers.{Layer, written, settled}
use Rattle.doc_items.specs.Codes.{code_of, as_member, as_piece}
use Rattle.doc_items.specs.Holds.{NodeAt}
use Rattle.doc_items.specs.Parts.{numbers, letters}
use Rattle.doc_items.specs.Room.{capacity, number_bound, answers_at}
use Rattle.eval_nodes.specs.Answer.Model.{answered}
use Rattle.eval_nodes.specs.declared.answer.Answered.{Answered}
use Rattle.eval_nodes.specs.Model.{answer_bound, answer_at, answered_at, key_at}
use Rattle.eval_memory.specs.Keys.{KeyNumber, Means}
use Rattle.eval_memory.specs.Finished.{Memory, Stored, SettledAt, settled-some}

pub code-small : (x : Scalar) → code_of x ≤ 5
code-small null = omega arith
code-small (boolean false) = omega arith
code-small (boolean true) = omega arith
code-small (number t) = omega arith
code-small (string t) = omega arith

-- Kinds of items by role: a member's, or so much more of a piece, which is never unresolved.
abbrev pub Role : ℕ → Node → Type 0
Role r (simple x) = (r ≡ as_member) ⊎ (r ≡ as_piece)
Role r (array es) = (r ≡ as_member) ⊎ (r ≡ as_piece)
Role r (object fs) = (r ≡ as_member) ⊎ (r ≡ as_piece)
Role r (unresolved b ps) = r ≡ as_member

pub as-member : (n : Node) → Role as_member n
as-member (simple x) = inl refl
as-member (array es) = inl refl
as-member (object fs) = inl refl
as-member (unresolved b ps) = refl

-- the kind without its role
pub kind-only : {r : ℕ} (k c : ℕ) → (r ≡ as_member) ⊎ (r ≡ as_piece) → k ≡ r + c → c < as_piece → k % as_piece ≡ c
kind-only k c (inl e) h l = omega arith
kind-only k c (inr e) h l = omega arith

module _ (M : Memory) where
  -- an unresolved value's number is its item's, and its answer stands among the finished values
  abbrev pub Number : ℕ → ℕ → Type 0
  Number m b = (m ≡ b) × (b < M.answered)

  -- an item holds a node, with all that is inside it
  pub record WrittenAt (n : Node) (c : ℕ) : Type 0 where
    pub sized : 1 ≤ get_or M.table (8 * c + 1) 0
    pub inside : c + get_or M.table (8 * c + 1) 0 ≤ M.items
    pub role : ℕ
    pub roles : Role role n
    pub node : NodeAt (numbers M.table) (letters 0 M.bytes) 0 M.ends Number role c n

  abbrev pub AnswerAt : Option Answer → ℕ → Type 0
  AnswerAt none a = a ≡ 0
  AnswerAt (some none) a = a ≡ 1
  AnswerAt (some (some v)) a = (o : ℕ) × (a ≡ o + 2) × SettledAt M v o

  -- what is known stands where the table says
  pub record Tables (known : ℕ → Option Answer) : Type 0 where
    pub stored : Stored M
    pub answers : (b : ℕ) → b < M.answered → AnswerAt (known b) (get_or M.table (answers_at + b) 0)

  -- the number of a value's records
  abbrev pub RecordOf : Value → ℕ → Type 0
  RecordOf v c = (o : ℕ) × (c ≡ capacity + o) × SettledAt M v o

  abbrev pub Shows : ℕ → Layer → Type 0
  Shows c (written (simple x)) = WrittenAt (simple x) c
  Shows c (written (array es)) = WrittenAt (array es) c
  Shows c (written (object fs)) = WrittenAt (object fs) c
  Shows c (written (unresolved b ps)) = ⊥
  Shows c (settled v) = RecordOf v c

  abbrev pub Match : List ℕ → List Layer → Type 0
  Match [] [] = Unit {0}
  Match [] (l ∷ ls) = ⊥
  Match (c ∷ cs) [] = ⊥
  Match (c ∷ cs) (l ∷ ls) = Shows c l × Match cs ls

  pub match-length : (cs : List ℕ) (ls : List Layer) → Match cs ls → length cs ≡ length ls
  match-length [] [] m = refl
  match-length [] (l ∷ ls) m = absurd m
  match-length (c ∷ cs) [] m = absurd m
  match-length (c ∷ cs) (l ∷ ls) m = ap suc (match-length cs ls m.1)

  match-onto : (cs ds : List ℕ) (ls ks : List Layer) → Match cs ls → Match ds ks → Match (reverse_aux cs ds) (reverse_aux ls ks)
  match-onto [] ds [] ks m n = n
  match-onto [] ds (l ∷ ls) ks m n = absurd m
  match-onto (c ∷ cs) ds [] ks m n = absurd m
  match-onto (c ∷ cs) ds (l ∷ ls) ks m n = match-onto cs (c ∷ ds) ls (l ∷ ks) m.1 (m.0, n)

  pub match-reverse : (cs : List ℕ) (ls : List Layer) → Match cs ls → Match (reverse cs) (reverse ls)
  match-reverse cs ls m = match-onto cs [] ls [] m tt

  -- ---- a member's key: its number, and the text that it names

  pub record KeyOf (c : ℕ) (t : Text) : Type 0 where
    pub number : KeyNumber M.table M.items (key_at M.table M.records c)
    pub text : M.key (key_at M.table M.records c) ≡ t

  -- a number that stands for a text tells whether a member has it as its key
  pub key-test : (c k : ℕ) (j t : Text) → KeyOf c j → Means M.key M.table M.items k t → eqb (key_at M.table M.records c) k ≡ same j t
  key-test c k j t K m = m (key_at M.table M.records c) K.number ∙ ap (λ (s : Text). same s t) K.text

  -- ---- a node as a layer

  module _ (S : Stored M) where
    pub item-low : {n : Node} {c : ℕ} → WrittenAt n c → c < capacity
    item-low a = omega (arith, a.sized, a.inside, S.few)

    shown-plain : (c k : ℕ) → c < capacity → get_or M.table (8 * c) 0 % as_piece ≡ k → k < 8 → answered_at M.table c ≡ Answered.Layer c
    unfolding answered_at
    shown-plain c k l e s = rw (lt-ltb c capacity l, ne_eqb (get_or M.table (8 * c) 0) 8 (λ q. omega arith), answered_at) refl

    -- a layer shows itself
    pub layer-shown : (c : ℕ) (l : Layer) → Shows c l → answered_at M.table c ≡ Answered.Layer c
    unfolding answered_at
    layer-shown c (written (simple x)) a =
        let k = code-small x in
        shown-plain c (code_of x) (item-low a) (kind-only (get_or M.table (8 * c) 0) (code_of x) a.roles a.node.0 (omega arith)) (omega arith)
    layer-shown c (written (array es)) a =
        shown-plain c 6 (item-low a) (kind-only (get_or M.table (8 * c) 0) 6 a.roles a.node.0 (omega arith)) (omega arith)
    layer-shown c (written (object fs)) a =
        shown-plain c 7 (item-low a) (kind-only (get_or M.table (8 * c) 0) 7 a.roles a.node.0 (omega arith)) (omega arith)
    layer-shown c (written (unresolved b ps)) a = absurd a
    layer-shown c (settled v) (o, e, a) = let l : capacity ≤ c = omega arith in rw (le-ltb c capacity l, answered_at) refl

    -- numbers that show layers fit 16 bits
    pub layer_fits : (c : ℕ) (l : Layer) → Shows c l → c < number_bound
    layer_fits c (written (simple x)) a = omega (arith, item-low a)
    layer_fits c (written (array es)) a = omega (arith, item-low a)
    layer_fits c (written (object fs)) a = omega (arith, item-low a)
    layer_fits c (written (unresolved b ps)) a = absurd a
    layer_fits c (settled v) (o, e, a) = omega (arith, a.inside)

  -- an unresolved value shows its answer
  module _ (known : ℕ → Option Answer) (tables : Tables known) where
    answer-bound : (k : Option Answer) (a : ℕ) → AnswerAt k a → a < answer_bound
    answer-bound none a e = omega arith
    answer-bound (some none) a e = omega arith
    answer-bound (some (some v)) a (o, e, s) = omega (arith, s.inside, settled-some M s)

    answer-held : (b : ℕ) → b < M.answered → answer_at M.table b ≡ get_or M.table (answers_at + b) 0
    unfolding answer_at
    answer-held b l =
        let a = get_or M.table (answers_at + b) 0 in
        rw (answer_at, lt-ltb a answer_bound (answer-bound (known b) a (tables.answers b l))) refl

    pub unresolved-shown : {b c : ℕ} (ps : Pieces) → WrittenAt (unresolved b ps) c
        → answered_at M.table c ≡ answered b (get_or M.table (answers_at + b) 0)
    unfolding answered_at
    unresolved-shown {b} {c} ps a =
        let e : get_or M.table (8 * c) 0 ≡ 8 = omega (arith, a.roles, a.node.0) in
        rw (
          lt-ltb c capacity (item-low tables.stored a),
          eq-eqb (get_or M.table (8 * c) 0) 8 e,
          answered_at,
          a.node.1.0,
          answer-held b a.node.1.1,
        ) refl
