-- The kinds of values, and that the code's tests tell them.
use Rattle.std.specs.Prelude.{◌≡◌, refl, Bool, true, false, ℕ, ◌≤◌, ◌<◌, leb, eqb}
use Rattle.std.proofs.Common.{sym, arith}
use borrow.Author.Tests.{le-leb, lt-leb, leb-true, leb-false}
use Rattle.rules.specs.Bytes.{within}
use Rattle.sheet_records.specs.declared.kinds.Kind.{Kind}

-- the rules' kinds of values: 1 to 3, 4 and 5, 6 and 7
unfoldable pub kind_of : ℕ → Kind
kind_of b =
    elim (within 1 3 b) [
      | true ↦ Kind.Plain
      | false ↦ elim (within 4 5 b) [
        | true ↦ Kind.Texted
        | false ↦ elim (within 6 7 b) [ true ↦ Kind.Container (eqb b 7) | false ↦ Kind.Bad ]
      ]
    ]

module _ {b : ℕ} where
  pub kind-none : b < 1 → Kind.Bad ≡ kind_of b
  unfolding kind_of
  kind-none h = rw (lt-leb 1 b h, lt-leb 4 b (omega arith), lt-leb 6 b (omega arith), kind_of)

  pub kind-plain : 1 ≤ b → b ≤ 3 → Kind.Plain ≡ kind_of b
  unfolding kind_of
  kind-plain h k = rw (le-leb 1 b h, le-leb b 3 k, kind_of)

  pub kind-texted : 3 < b → b ≤ 5 → Kind.Texted ≡ kind_of b
  unfolding kind_of
  kind-texted h k = rw (le-leb 1 b (omega arith), lt-leb b 3 h, le-leb 4 b (omega arith), le-leb b 5 k, kind_of)

  pub kind-container : 5 < b → b ≤ 7 → Kind.Container (eqb b 7) ≡ kind_of b
  unfolding kind_of
  kind-container h k =
      rw (
        le-leb 1 b (omega arith),
        lt-leb b 3 (omega arith),
        le-leb 4 b (omega arith),
        lt-leb b 5 h,
        le-leb 6 b (omega arith),
        le-leb b 7 k,
        kind_of,
      )

  pub kind-past : 7 < b → Kind.Bad ≡ kind_of b
  unfolding kind_of
  kind-past h =
      rw (
        le-leb 1 b (omega arith),
        lt-leb b 3 (omega arith),
        le-leb 4 b (omega arith),
        lt-leb b 5 (omega arith),
        le-leb 6 b (omega arith),
        lt-leb b 7 h,
        kind_of,
      )

-- a value's kind is 7 at most
pub kind-small : (b : ℕ) → (kind_of b ≡ Kind.Bad → ⊥) → b ≤ 7
kind-small b n = go (leb b 7) refl
  where
    go : (t : Bool) → leb b 7 ≡ t → b ≤ 7
    go true e = leb-true b 7 e
    go false e = absurd (n (sym (kind-past (leb-false b 7 e))))

pub ruleset kinds = (kind-none, kind-plain, kind-texted, kind-container, kind-past)
