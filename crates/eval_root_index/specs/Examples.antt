-- A root of four fields, with a piece between the second and the third: items 1, 2, 4, 5; the keys of the first, the third and the last are the same.
use Rattle.std.specs.Prelude.{◌≡◌, refl, List, [], ◌∷◌, ℕ, ◌*◌, ◌≤◌, ◌<◌, get_or}
use Rattle.std.proofs.Common.{arith}
use Rattle.eval_root_index.specs.Links.{Listed, Follows, with_key, onto}

-- kinds and sizes
unfoldable T : List ℕ
T = 7 ∷ 6 ∷ 0 ∷ 0 ∷ 0 ∷ 0 ∷ 0 ∷ 0
    ∷ 1 ∷ 1 ∷ 0 ∷ 0 ∷ 0 ∷ 0 ∷ 0 ∷ 0
    ∷ 1 ∷ 1 ∷ 0 ∷ 0 ∷ 0 ∷ 0 ∷ 0 ∷ 0
    ∷ 17 ∷ 1 ∷ 0 ∷ 0 ∷ 0 ∷ 0 ∷ 0 ∷ 0
    ∷ 1 ∷ 1 ∷ 0 ∷ 0 ∷ 0 ∷ 0 ∷ 0 ∷ 0
    ∷ 1 ∷ 1 ∷ 0 ∷ 0 ∷ 0 ∷ 0 ∷ 0 ∷ 0
    ∷ []

unfoldable keys : List ℕ
keys = 0 ∷ 1 ∷ 2 ∷ 0 ∷ 1 ∷ 1 ∷ []

-- the fields with the number 1
with-one : with_key (λ i. get_or keys i 0) 1 (1 ∷ 2 ∷ 4 ∷ 5 ∷ []) ≡ 1 ∷ 4 ∷ 5 ∷ []
unfolding with_key keys
with-one = refl

-- linked: 1 to 4, 4 to 5, and 5, the last, to none
unfoldable nexts : List ℕ
nexts = 9 ∷ 4 ∷ 0 ∷ 9 ∷ 5 ∷ 0 ∷ []

from_one : Follows (λ i. get_or nexts i 0) 1 (1 ∷ 4 ∷ 5 ∷ [])
unfolding nexts
from_one = (refl, omega arith, (refl, omega arith, (refl, omega arith, refl)))

-- linked back from the last
backwards : onto (5 ∷ 4 ∷ 2 ∷ 1 ∷ []) [] ≡ 1 ∷ 2 ∷ 4 ∷ 5 ∷ []
unfolding onto
backwards = refl

-- the piece is left out
seams : (k : ℕ) → 3 ≤ k → k < 4 → 16 ≤ get_or T (8 * k) 0
unfolding T
seams k u v = let e : k ≡ 3 = omega arith in rw e (omega arith)

listed : Listed (λ i. get_or T i 0) 1 6 (1 ∷ 2 ∷ 4 ∷ 5 ∷ [])
unfolding T
listed = (
  (omega arith, λ k u v. absurd (omega arith)),
  (omega arith, omega arith),
  omega arith,
  (
    (omega arith, λ k u v. absurd (omega arith)),
    (omega arith, omega arith),
    omega arith,
    (
      (omega arith, seams),
      (omega arith, omega arith),
      omega arith,
      (
        (omega arith, λ k u v. absurd (omega arith)),
        (omega arith, omega arith),
        omega arith,
        (omega arith, λ k u v. absurd (omega arith)),
      ),
    ),
  ),
)
