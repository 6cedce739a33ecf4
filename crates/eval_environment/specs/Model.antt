-- The path of a substitution by the numbers of its item, and its elements with dots. Nothing is assumed of the bytes.
use Rattle.std.specs.Prelude.{ℕ, zero, suc, ◌+◌, ◌*◌, ◌-◌, cond, List, [], ◌∷◌, ◌++◌, leb, length, get_or, take, drop}
use Rattle.rules.specs.Bytes.{Text}
use Rattle.rules.specs.Ascii as ascii
use Rattle.rules.specs.Sheet.{pair_at}

-- one element more; one that does not lie in the bytes is none
unfoldable pub element_c : List ℕ → (at n : ℕ) → List Text → List Text
element_c X at n ts = cond (leb (at + n) (length X)) (take n (drop at X) ∷ ts) ts

-- So many elements: the path's texts begin at `at`, the next one's `from` bytes further, and where that one ends stands in the two bytes at
-- `ends`.
unfoldable pub elements_c : List ℕ → (at ends left from : ℕ) → List Text
unfolding element_c pair_at
elements_c X at ends zero from = []
elements_c X at ends (suc n) from =
    element_c X (at + from) (pair_at X ends - from) (elements_c X at (ends + 2) n (pair_at X ends))

-- the path of the substitution at item i
unfoldable pub path_c : (T X : List ℕ) (i : ℕ) → List Text
unfolding elements_c
path_c T X i =
    elements_c X (get_or T (8 * i + 4) 0) (get_or T (8 * i + 4) 0 + get_or T (8 * i + 5) 0) (get_or T (8 * i + 7) 0) 0

-- each element behind a dot
unfoldable pub behind_dots : List Text → Text
behind_dots [] = []
behind_dots (t ∷ ts) = (ascii.dot ∷ t) ++ behind_dots ts
