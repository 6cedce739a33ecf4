-- Tables of a few records, and what the rules say of them. In the text part "ab" stand the keys a and b.
use Rattle.std.specs.Prelude.{◌≡◌, refl, true, false, List, [], ◌∷◌, ℕ}
use Rattle.std.proofs.Math.Option.{some}
use Rattle.rules.specs.LookUp.{is_whole, member_at}

-- { b: null, a: false, a: true }
abbrev twice : List ℕ
twice =
    7 ∷ 0 ∷ 3 ∷ 8 ∷ 0 ∷ 1 ∷ 0 ∷ 1 ∷ 1 ∷ 8 ∷ 0 ∷ 0 ∷ 0 ∷ 1 ∷ 2 ∷ 8 ∷ 0 ∷ 0 ∷ 0 ∷ 1 ∷ 3 ∷ []

twice-whole : is_whole twice 2 ≡ true
unfolding is_whole
twice-whole = refl

-- "A lent table with equal keys answers by the first."
first-of-equal : member_at twice (97 ∷ 98 ∷ []) (97 ∷ []) 0 ≡ some 14
unfolding member_at
first-of-equal = refl

-- a text that ends past the text part
past-the-text : is_whole twice 1 ≡ false
unfolding is_whole
past-the-text = refl

-- a key is no value
key-alone : is_whole (8 ∷ 0 ∷ 0 ∷ 0 ∷ 1 ∷ []) 2 ≡ false
unfolding is_whole
key-alone = refl
