-- The path a.bc, whose texts stand from the offset 2 on with the ends of its elements behind them.
use Rattle.std.specs.Prelude.{◌≡◌, refl, ℕ, List, [], ◌∷◌}
use Rattle.rules.specs.Bytes.{byte_at}
use Rattle.eval_keys.specs.Texts.{text_of}
use Rattle.eval_substitutions.specs.Keys.Model.{element_at, element_len}
use Rattle.eval_substitutions.specs.declared.keys.Route.{Route}

abbrev bytes : List ℕ
bytes = 120 ∷ 120 ∷ 97 ∷ 98 ∷ 99 ∷ 0 ∷ 1 ∷ 0 ∷ 3 ∷ []

abbrev path : Route
path = record { at = record { 0 = 2 }; len = record { 0 = 3 }; count = 2 }

first-element : text_of (byte_at bytes) (element_at bytes path 0) (element_len bytes path 0) ≡ 97 ∷ []
unfolding text_of element_at element_len
first-element = refl

second-element : text_of (byte_at bytes) (element_at bytes path 1) (element_len bytes path 1) ≡ 98 ∷ 99 ∷ []
unfolding text_of element_at element_len
second-element = refl
