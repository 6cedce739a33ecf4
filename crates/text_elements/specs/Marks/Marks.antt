-- The marks of a path, as a list of numbers: the end and the place of each element that is marked, one behind the other.
use Rattle.std.specs.Prelude.{ℕ, ◌+◌, ◌*◌, cond, List, ltb, get_or, set}
use Rattle.rules.specs.Sizes.{max_path}

-- the elements that are marked: those that a path may have, and the first that is too many
abbrev pub marked : ℕ
marked = max_path + 1

-- two numbers for each
abbrev pub marks_room : ℕ
marks_room = 2 * marked

abbrev pub end_of : List ℕ → ℕ → ℕ
end_of marks n = get_or marks (2 * n) 0

abbrev pub place_of : List ℕ → ℕ → ℕ
place_of marks n = get_or marks (2 * n + 1) 0

-- one mark more
unfoldable pub mark_c : ℕ → ℕ → ℕ → List ℕ → List ℕ
mark_c n end place marks = cond (ltb n marked) (set (set marks (2 * n) end) (2 * n + 1) place) marks
