-- Going down to an unresolved value by its number: at each literal into the field that contains it, carrying something that each field
-- changes. What is carried is an openness, or what is left of a path with the layers so far, or a number of steps: one descent for all.
use Rattle.std.specs.Prelude.{◌≡◌, refl, ℕ, suc, ◌+◌, ◌≤◌, ◌<◌, Bool, true, false, ltb, eqb}
use Rattle.std.proofs.Math.Path.{ap}
use Rattle.std.proofs.Common.{◌∙◌}
use native.Mathlib.Omega.{arith}
use borrow.Author.Tests.{ltb-true, ltb-false, eqb-true, eq-eqb}
use Rattle.answers.specs.Theory.Sound.{clash}
use Rattle.rules.specs.Tree.{Key, Node, simple, array, object, unresolved, Elements, no-elements, element, Fields, no_fields, field, Pieces, no_pieces, node_piece, substituted, join_fields}
use Rattle.rules.specs.Unresolved.{with_field}
use Rattle.theory_text.specs.Choices.{by-test}

-- how many unresolved values are in a node, those inside pieces too
unfoldable mutual
  pub count_node : Node → ℕ
  count_node (simple x) = 0
  count_node (array es) = count_elements es
  count_node (object fs) = count_fields fs
  count_node (unresolved b ps) = suc (count_pieces ps)

  pub count_elements : Elements → ℕ
  count_elements no-elements = 0
  count_elements (element n es) = count_node n + count_elements es

  pub count_fields : Fields → ℕ
  count_fields no_fields = 0
  count_fields (field k n fs) = count_node n + count_fields fs

  pub count_pieces : Pieces → ℕ
  count_pieces no_pieces = 0
  count_pieces (node_piece place gap n ps) = count_node n + count_pieces ps
  count_pieces (substituted gap x ps) = count_pieces ps

module _ {X : Type 0} (off : X) (enter : X → Fields → Key → X) where
  -- `from` is the number of the first unresolved value in the node, b that of the one looked for; `off` is what comes of entering an array
  -- or a piece, and of a number that is not there.
  unfoldable mutual
    unfolding count_node with_field

    pub down_node : X → ℕ → Node → ℕ → X
    down_node x from (simple s) b = off
    down_node x from (array es) b = off
    down_node x from (object fs) b = down_fields x no_fields from fs b
    down_node x from (unresolved c ps) b = elim (eqb b from) [ true ↦ x | false ↦ off ]

    pub down_fields : X → Fields → ℕ → Fields → ℕ → X
    down_fields x earlier from no_fields b = off
    down_fields x earlier from (field k n fs) b = elim (ltb b (from + count_node n)) [
      | true ↦ down_node (enter x earlier k) from n b
      | false ↦ down_fields x (with_field earlier k n) (from + count_node n) fs b
    ]

-- ---- the field around a number

pub with-join : (earlier : Fields) (k : Key) (n : Node) (fs : Fields) → join_fields (with_field earlier k n) fs ≡ join_fields earlier (field k n fs)
unfolding with_field join_fields
with-join no_fields k n fs = refl
with-join (field j m es) k n fs = ap (field j m) (with-join es k n fs)

pub join-none : (fs : Fields) → join_fields fs no_fields ≡ fs
unfolding join_fields
join-none no_fields = refl
join-none (field k n fs) = ap (field k n) (join-none fs)

-- the fields split around the one that contains the number b, where the first number in them is `from`
pub record Around (fs : Fields) (from b : ℕ) : Type 0 where
  pub earlier : Fields
  pub key : Key
  pub node : Node
  pub later : Fields
  pub is : fs ≡ join_fields earlier (field key node later)
  pub low : from + count_fields earlier ≤ b
  pub high : b < from + count_fields earlier + count_node node

-- there is one for each number in them
pub around : (fs : Fields) (from b : ℕ) → from ≤ b → b < from + count_fields fs → Around fs from b
unfolding count_node join_fields
around no_fields from b l h = absurd (omega arith)
around (field k n fs) from b l h = go (ltb b (from + count_node n)) refl (around fs (from + count_node n) b)
  where
    go : (t : Bool) → ltb b (from + count_node n) ≡ t → (from + count_node n ≤ b → b < from + count_node n + count_fields fs → Around fs (from + count_node n) b)
        → Around (field k n fs) from b
    go true e ih = record {
      earlier = no_fields;
      key = k;
      node = n;
      later = fs;
      is = refl;
      low = omega arith;
      high = omega (arith, ltb-true b (from + count_node n) e);
    }
    go false e ih =
        let a = ih (ltb-false b (from + count_node n) e) (omega arith) in record {
          earlier = field k n a.earlier;
          key = a.key;
          node = a.node;
          later = a.later;
          is = ap (field k n) a.is;
          low = omega (arith, a.low);
          high = omega (arith, a.high);
        }

module _ {X : Type 0} (off : X) (enter : X → Fields → Key → X) where
  -- A step of the descent: past the earlier fields, into the field around the number.
  pub down_step : (x : X) (before : Fields) (from : ℕ) (earlier : Fields) (k : Key) (n : Node) (later : Fields) (b : ℕ)
      → from + count_fields earlier ≤ b → b < from + count_fields earlier + count_node n
      → down_fields off enter x before from (join_fields earlier (field k n later)) b
      ≡ down_node off enter (enter x (join_fields before earlier) k) (from + count_fields earlier) n b
  unfolding down_node count_node join_fields
  down_step x before from no_fields k n later b l h =
      let here : from ≡ from + 0 = omega arith in
      by-test (λ y. y ≡ down_node off enter (enter x (join_fields before no_fields) k) (from + 0) n b) (ltb b (from + count_node n))
      (λ e. rw (join-none before) (ap (λ i. down_node off enter (enter x before k) i n b) here))
      (λ e. absurd (omega (arith, ltb-false b (from + count_node n) e)))
  down_step x before from (field j m fs) k n later b l h =
      let there : from + count_node m + count_fields fs ≡ from + (count_node m + count_fields fs) = omega arith in
      by-test (λ y. y ≡ down_node off enter (enter x (join_fields before (field j m fs)) k) (from + (count_node m + count_fields fs)) n b)
      (ltb b (from + count_node m))
      (λ e. absurd (omega (arith, ltb-true b (from + count_node m) e)))
      (λ e. down_step x (with_field before j m) (from + count_node m) fs k n later b (omega arith) (omega arith)
      ∙ rw (with-join before j m fs) (ap (λ i. down_node off enter (enter x (join_fields before (field j m fs)) k) i n b) there))

  pub step-around : (x : X) (from : ℕ) (fs : Fields) (b : ℕ) (a : Around fs from b)
      → down_node off enter x from (object fs) b ≡ down_node off enter (enter x a.earlier a.key) (from + count_fields a.earlier) a.node b
  unfolding down_node join_fields
  step-around x from fs b a =
      ap (λ gs. down_fields off enter x no_fields from gs b) a.is
      ∙ down_step x no_fields from a.earlier a.key a.node a.later b a.low a.high

  -- the unresolved value itself, and one inside its pieces
  pub down-here : (x : X) (from c : ℕ) (ps : Pieces) → down_node off enter x from (unresolved c ps) from ≡ x
  unfolding down_node
  down-here x from c ps = by-test (λ y. y ≡ x) (eqb from from) (λ e. refl) (λ e. clash (cc (eq-eqb from from refl)))

  pub down-piece : (x : X) (from c : ℕ) (ps : Pieces) (b : ℕ) → from < b → down_node off enter x from (unresolved c ps) b ≡ off
  unfolding down_node
  down-piece x from c ps b h = by-test (λ y. y ≡ off) (eqb b from) (λ e. absurd (omega (arith, eqb-true b from e))) (λ e. refl)

  -- what is off stays off, if no field changes that
  module _ (stays : (earlier : Fields) (k : Key) → enter off earlier k ≡ off) where
    mutual
      unfolding down_node

      pub off-node : (from : ℕ) (n : Node) (b : ℕ) → down_node off enter off from n b ≡ off
      off-node from (simple s) b = refl
      off-node from (array es) b = refl
      off-node from (object fs) b = off-fields no_fields from fs b
      off-node from (unresolved c ps) b = go (eqb b from)
        where
          go : (t : Bool) → ◌≡◌ {A = X} (elim t [ true ↦ off | false ↦ off ]) off
          go true = refl
          go false = refl

      pub off-fields : (earlier : Fields) (from : ℕ) (fs : Fields) (b : ℕ) → down_fields off enter off earlier from fs b ≡ off
      off-fields earlier from no_fields b = refl
      off-fields earlier from (field k n fs) b =
          go (ltb b (from + count_node n))
          (ap (λ x. down_node off enter x from n b) (stays earlier k) ∙ off-node from n b)
          (off-fields (with_field earlier k n) (from + count_node n) fs b)
        where
          go : (t : Bool) {u v : X} → u ≡ off → v ≡ off → ◌≡◌ {A = X} (elim t [ true ↦ u | false ↦ v ]) off
          go true e f = e
          go false e f = f
