-- Two descents, one of which is seen through the other; and what every field keeps, the descent has at its end.
use Rattle.std.specs.Prelude.{◌≡◌, refl, ℕ, ◌+◌, Bool, true, false, ltb, eqb}
use Rattle.std.proofs.Math.Path.{ap}
use Rattle.std.proofs.Common.{◌∙◌}
use Rattle.rules.specs.Tree.{Key, Node, simple, array, object, unresolved, Fields, no_fields, field}
use Rattle.rules.specs.Unresolved.{with_field}
use Rattle.theory_text.specs.Choices.{by-test}
use Rattle.theory_back.specs.Descent.{count_node, down_node, down_fields}

-- ---- two descents, one of which is seen through the other

module _ {X Y : Type 0} (off : X) (enter : X → Fields → Key → X) (off' : Y) (enter' : Y → Fields → Key → Y) (φ : X → Y)
    (offs : φ off ≡ off') (enters : (x : X) (earlier : Fields) (k : Key) → φ (enter x earlier k) ≡ enter' (φ x) earlier k) where
  tests : (t : Bool) {u v : X} {w z : Y} → φ u ≡ w → φ v ≡ z
      → φ (elim t as (λ _. X) [ true ↦ u | false ↦ v ]) ≡ elim t as (λ _. Y) [ true ↦ w | false ↦ z ]
  tests true e f = e
  tests false e f = f

  mutual
    unfolding down_node

    pub seen-node : (x : X) (from : ℕ) (n : Node) (b : ℕ) → φ (down_node off enter x from n b) ≡ down_node off' enter' (φ x) from n b
    seen-node x from (simple s) b = offs
    seen-node x from (array es) b = offs
    seen-node x from (object fs) b = seen-fields x no_fields from fs b
    seen-node x from (unresolved c ps) b = tests (eqb b from) refl offs

    pub seen-fields : (x : X) (earlier : Fields) (from : ℕ) (fs : Fields) (b : ℕ)
        → φ (down_fields off enter x earlier from fs b) ≡ down_fields off' enter' (φ x) earlier from fs b
    seen-fields x earlier from no_fields b = offs
    seen-fields x earlier from (field k n fs) b =
        tests (ltb b (from + count_node n))
        (seen-node (enter x earlier k) from n b ∙ ap (λ y. down_node off' enter' y from n b) (enters x earlier k))
        (seen-fields x (with_field earlier k n) (from + count_node n) fs b)

-- ---- what every field keeps, the descent has at its end

module _ {X : Type 0} (off : X) (enter : X → Fields → Key → X) (P : X → Type 0)
    (offs : P off) (enters : (x : X) (earlier : Fields) (k : Key) → P x → P (enter x earlier k)) where
  mutual
    unfolding down_node

    pub keeps-node : (x : X) (from : ℕ) (n : Node) (b : ℕ) → P x → P (down_node off enter x from n b)
    keeps-node x from (simple s) b p = offs
    keeps-node x from (array es) b p = offs
    keeps-node x from (object fs) b p = keeps-fields x no_fields from fs b p
    keeps-node x from (unresolved c ps) b p = by-test P (eqb b from) (λ e. p) (λ e. offs)

    pub keeps-fields : (x : X) (earlier : Fields) (from : ℕ) (fs : Fields) (b : ℕ) → P x → P (down_fields off enter x earlier from fs b)
    keeps-fields x earlier from no_fields b p = offs
    keeps-fields x earlier from (field k n fs) b p =
        by-test P (ltb b (from + count_node n))
        (λ e. keeps-node (enter x earlier k) from n b (enters x earlier k p))
        (λ e. keeps-fields x (with_field earlier k n) (from + count_node n) fs b p)

  -- of a literal's fields: it is enough that every field entered first has it
  pub keeps-entered : (x : X) → ((earlier : Fields) (k : Key) → P (enter x earlier k)) → (earlier : Fields) (from : ℕ) (fs : Fields) (b : ℕ)
      → P (down_fields off enter x earlier from fs b)
  unfolding down_node
  keeps-entered x p earlier from no_fields b = offs
  keeps-entered x p earlier from (field k n fs) b =
      by-test P (ltb b (from + count_node n))
      (λ e. keeps-node (enter x earlier k) from n b (p earlier k))
      (λ e. keeps-entered x p (with_field earlier k n) (from + count_node n) fs b)
