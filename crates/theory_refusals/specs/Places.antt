-- The refusals that have place 0, of each job: "1", "13" to "17"; and those of resolve and check that have a line and a column. And which
-- numbers of resolve come from resolving alone. What holds of each list is shown in proofs/Places.antt.
use Rattle.std.specs.Prelude.{ℕ}
use mathlib.Core.List.{List, [], ◌∷◌}

-- the numbers whose place is one in a document, of resolve and check: 2 to 12
abbrev pub in_document : List ℕ
in_document = 2 ∷ 3 ∷ 4 ∷ 5 ∷ 6 ∷ 7 ∷ 8 ∷ 9 ∷ 10 ∷ 11 ∷ 12 ∷ []

-- ---- resolve

-- resolve's numbers whose place is 0
abbrev pub resolve_nowhere : List ℕ
resolve_nowhere = 1 ∷ 13 ∷ 14 ∷ []

-- the numbers of resolving alone: 11 is reading's too
abbrev pub resolving_alone : List ℕ
resolving_alone = 9 ∷ 10 ∷ 12 ∷ 13 ∷ 14 ∷ []

-- ---- check

abbrev pub check_nowhere : List ℕ
check_nowhere = 1 ∷ 17 ∷ []

-- ---- look-up

abbrev pub look_up_nowhere : List ℕ
look_up_nowhere = 1 ∷ 15 ∷ 16 ∷ []
