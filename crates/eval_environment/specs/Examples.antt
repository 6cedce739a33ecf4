-- A path of two elements as it stands in the bytes, and the name that the environment is asked for.
use Rattle.std.specs.Prelude.{◌≡◌, refl, [], ◌∷◌, ◌++◌}
use Rattle.rules.specs.Cases.{bytes}
use Rattle.eval_environment.specs.Model.{elements_c, behind_dots}

two-elements : elements_c (bytes "abc" ++ (0 ∷ 2 ∷ 0 ∷ 3 ∷ [])) 0 3 2 0 ≡ bytes "ab" ∷ bytes "c" ∷ []
unfolding bytes elements_c
two-elements = refl

joined-by-dots : behind_dots (bytes "ab" ∷ bytes "c" ∷ []) ≡ bytes ".ab.c"
unfolding bytes behind_dots
joined-by-dots = refl
