-- Copies by computing.
use Rattle.std.specs.Prelude.{◌≡◌, refl, ℕ, List, [], ◌∷◌}
use Rattle.sheet_forms.specs.Model.{members_c}
use Rattle.eval_copy.specs.Model.{copy_v}

-- a job's bytes: the document's texts "ab1", then README's answer, the number 1 at text 0, and its text at 8
abbrev bytes : List ℕ
bytes = 97 ∷ 98 ∷ 49 ∷ 4 ∷ 0 ∷ 0 ∷ 0 ∷ 1 ∷ 49 ∷ []

-- it is written behind the texts `a1b` that the room has
answer-copied : copy_v 32 [] bytes 8 3 3 ≡ record { xs = 4 ∷ 0 ∷ 3 ∷ 0 ∷ 1 ∷ []; ws = (1, 49 ∷ []) ∷ []; next = 8; deep = 0 }
unfolding copy_v
answer-copied = refl

-- { b: 1 }, where b is the key number 1 of a table of two items
abbrev table : List ℕ
table = 0 ∷ 0 ∷ 0 ∷ 0 ∷ 0 ∷ 0 ∷ 0 ∷ 0 ∷ 4 ∷ 1 ∷ 1 ∷ 1 ∷ 2 ∷ 1 ∷ 0 ∷ 0 ∷ []

abbrev object : List ℕ
object = 97 ∷ 98 ∷ 49 ∷ 7 ∷ 0 ∷ 10 ∷ 8 ∷ 0 ∷ 1 ∷ 0 ∷ 1 ∷ 4 ∷ 0 ∷ 1 ∷ 0 ∷ 1 ∷ 98 ∷ 49 ∷ []

object-copied : copy_v 32 table object 16 3 7
    ≡ record { xs = 7 ∷ 0 ∷ 10 ∷ 8 ∷ 0 ∷ 1 ∷ 0 ∷ 1 ∷ 4 ∷ 0 ∷ 8 ∷ 0 ∷ 1 ∷ []; ws = (1, 98 ∷ []) ∷ (1, 49 ∷ []) ∷ []; next = 16; deep = 1 }
unfolding copy_v members_c
object-copied = refl
