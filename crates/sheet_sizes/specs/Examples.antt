-- README's entry, the number 1: eight bytes of trail and one of text, and no room less.
use Rattle.std.specs.Prelude.{◌≡◌, refl, true, false, [], ◌∷◌}
use Rattle.std.proofs.Math.Option.{some}
use Rattle.rules.specs.Tree.{number}
use Rattle.rules.specs.Values.{scalar}
use Rattle.rules.specs.Sheet.{trail_fits}

entry-fits : trail_fits 8 1 ((0, some (scalar (number (49 ∷ [])))) ∷ []) ≡ true
unfolding trail_fits
entry-fits = refl

trail-too-small : trail_fits 7 1 ((0, some (scalar (number (49 ∷ [])))) ∷ []) ≡ false
unfolding trail_fits
trail-too-small = refl

text-too-small : trail_fits 8 0 ((0, some (scalar (number (49 ∷ [])))) ∷ []) ≡ false
unfolding trail_fits
text-too-small = refl
