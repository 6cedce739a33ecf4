-- Two layers that are pushed, and one that has no room.
use Rattle.std.specs.Prelude.{◌≡◌, refl, [], ◌∷◌}
use Rattle.eval_stack.specs.Model.{work_room, push_top, push_c}

all-numbers : work_room ≡ 67585
all-numbers = refl

pushed-twice : push_c 7 3 (push_c 5 3 []) ≡ 7 ∷ 5 ∷ []
unfolding push_c
pushed-twice = refl

no_room : push_c 7 1 (5 ∷ []) ≡ 5 ∷ []
unfolding push_c
no_room = refl

top-stays : push_top 32768 ≡ 32768
unfolding push_top
top-stays = refl
