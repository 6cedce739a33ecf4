-- What the answers of a trail weigh together.
use Rattle.std.specs.Prelude.{◌≡◌, refl, ℕ, zero, suc, ◌+◌, ◌*◌, ◌≤◌, ◌<◌, Bool, true, false, [], ◌∷◌, eqb}
use Rattle.std.proofs.Math.Option.{Option, none, some}
use Rattle.std.proofs.Common.{arith, eqb-true, eq-eqb, ne_eqb}
use Rattle.std.proofs.lemmas.Bool.{eqb-false}
use Rattle.answers.specs.Ask.{Trail, lookup}
use Rattle.rules.specs.Tree.{Scalar, null, boolean, number, string}
use Rattle.rules.specs.Values.{Value, scalar, array_of, object_of, Members, no-members, member, Answer, scalar_records, record_size, member_record_sizes}
use Rattle.rules.specs.Weights.{weight_of_value, weight_of_members, weight_of_answer}
use Rattle.rules.specs.Sheet.{entry_size, trail_size}

-- the sum of the numbers below n
unfoldable pub sum_below : (ℕ → ℕ) → ℕ → ℕ
sum_below f zero = 0
sum_below f (suc n) = f n + sum_below f n

pub sum-rises : (f : ℕ → ℕ) (n k : ℕ) → sum_below f n ≤ sum_below f (n + k)
unfolding sum_below
sum-rises f n zero = let e : n + 0 ≡ n = omega arith in rw e (omega arith)
sum-rises f n (suc k) = let e : n + suc k ≡ suc (n + k) = omega arith in rw e (omega (arith, sum-rises f n k))

-- ---- a member has six bytes of records at least

scalar-bytes : (x : Scalar) → 1 ≤ scalar_records x
unfolding scalar_records
scalar-bytes null = omega arith
scalar-bytes (boolean b) = omega arith
scalar-bytes (number t) = omega arith
scalar-bytes (string t) = omega arith

mutual
  unfolding weight_of_value record_size

  pub value-bytes : (v : Value) → 6 * weight_of_value v ≤ record_size v + 5
  value-bytes (scalar x) = omega (arith, scalar-bytes x)
  value-bytes (array_of vs) = omega arith
  value-bytes (object_of ms) = omega (arith, member-bytes ms)

  member-bytes : (ms : Members) → 6 * weight_of_members ms ≤ member_record_sizes ms
  member-bytes no-members = omega arith
  member-bytes (member k v ms) = omega (arith, value-bytes v, member-bytes ms)

-- ---- the entries of a trail, one for each number

-- the bytes of a number's entry
abbrev pub entry_of : Option Answer → ℕ
unfolding entry_size
entry_of none = 0
entry_of (some a) = entry_size a

answer-bytes : (o : Option Answer) → 6 * weight_of_answer o ≤ entry_of o + 2
unfolding entry_size
answer-bytes none = omega arith
answer-bytes (some none) = omega arith
answer-bytes (some (some v)) = omega (arith, value-bytes v)

sum-below : (f g : ℕ → ℕ) (n : ℕ) → ((b : ℕ) → b < n → f b ≤ g b) → sum_below f n ≤ sum_below g n
unfolding sum_below
sum-below f g zero h = omega arith
sum-below f g (suc n) h = omega (arith, h n (omega arith), sum-below f g n (λ b l. h b (omega arith)))

-- of one number there is more
one_more : (f g : ℕ → ℕ) (q m : ℕ) → ((b : ℕ) → (q ≡ b → ⊥) → f b ≤ g b) → f q ≤ m + g q → (n : ℕ) → sum_below f n ≤ m + sum_below g n
unfolding sum_below
one_more f g q m others at zero = omega arith
one_more f g q m others at (suc n) = go (eqb q n) refl (one_more f g q m others at n)
  where
    go : (t : Bool) → eqb q n ≡ t → sum_below f n ≤ m + sum_below g n → f n + sum_below f n ≤ m + (g n + sum_below g n)
    go true e ih =
        let z : q ≡ n = eqb-true q n e in
        let here : f n ≤ m + g n = rw z at at in
        omega (arith, here, sum-below f g n (λ b l. others b (λ y. absurd (omega arith))))
    go false e ih = omega (arith, ih, others n (eqb-false q n e))

entries-sum : (S : Trail Answer) (n : ℕ) → sum_below (λ b. entry_of (lookup S b)) n ≤ trail_size S
unfolding trail_size sum_below
entries-sum [] n = none-sum n
  where
    none-sum : (n : ℕ) → sum_below (λ b. 0) n ≤ 0
    none-sum zero = omega arith
    none-sum (suc n) = omega (arith, none-sum n)
entries-sum (e ∷ S) n =
    omega (
      arith,
      entries-sum S n,
      one_more (λ b. entry_of (lookup (e ∷ S) b)) (λ b. entry_of (lookup S b)) e.0 (entry_size e.1) others here n,
    )
  where
    others : (b : ℕ) → (e.0 ≡ b → ⊥) → entry_of (lookup (e ∷ S) b) ≤ entry_of (lookup S b)
    others b f = rw (ne_eqb e.0 b f) (omega arith)

    here : entry_of (lookup (e ∷ S) e.0) ≤ entry_size e.1 + entry_of (lookup S e.0)
    here = rw (eq-eqb e.0 e.0 refl) (omega arith)

weights-sum : (known : ℕ → Option Answer) (n : ℕ) → 6 * sum_below (λ b. weight_of_answer (known b)) n ≤ sum_below (λ b. entry_of (known b)) n + 2 * n
unfolding sum_below
weights-sum known zero = omega arith
weights-sum known (suc n) = omega (arith, weights-sum known n, answer-bytes (known n))

-- the answers of n numbers weigh a sixth of the trail's bytes, and two bytes more for each
pub trail-weighs : (S : Trail Answer) (n : ℕ) → 6 * sum_below (λ b. weight_of_answer (lookup S b)) n ≤ trail_size S + 2 * n
trail-weighs S n = omega (arith, weights-sum (lookup S) n, entries-sum S n)
