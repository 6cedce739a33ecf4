-- The standard library's comparison of two slices is the rules'.
use mathlib.Core.Path.{◌≡◌, refl, ◌∙◌}
use mathlib.Core.Bool.{Bool, true, false, ◌&&◌}
use mathlib.Core.List.{List, [], ◌∷◌}
use Prim.Native.Nat.{ℕ}
use lib.Dec.{eqb}
use lib.Pointwise.{pointwise}
use Rattle.rules.specs.Bytes.{same}

pub pointwise-same : (a b : List ℕ) → pointwise eqb a b ≡ same a b
unfolding same
pointwise-same [] [] = refl
pointwise-same [] (y ∷ ys) = refl
pointwise-same (x ∷ xs) [] = refl
pointwise-same (x ∷ xs) (y ∷ ys) = go (eqb x y) (pointwise-same xs ys)
  where
    go : (t : Bool) → pointwise eqb xs ys ≡ same xs ys → (t && pointwise eqb xs ys) ≡ elim t [ true ↦ same xs ys | false ↦ false ]
    go true h = h
    go false h = refl

pub same-slices : (a b : List ℕ) {r : Bool} → r ≡ pointwise eqb a b → r ≡ same a b
same-slices a b e = e ∙ pointwise-same a b
