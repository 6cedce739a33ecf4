-- What the loop makes of a value's bytes as kept.
use Rattle.std.specs.Prelude.{◌≡◌, refl, true, false, List, [], ◌∷◌, ℕ}
use Rattle.sheet_kept.specs.Kept.{kept}
use Rattle.sheet_kept.specs.Examples.{key, value, as_kept, as_laid}
use Rattle.sheet_forms.specs.Model.{members_c}
use Rattle.sheet_layout.specs.Model.{lays, eq_at}
use Rattle.sheet_forms.specs.declared.Form.{Form}

lay-runs : lays Form.Public 27 as_kept 27 0 256 ≡ as_laid
unfolding lays members_c
lay-runs = refl

keep-runs : lays Form.Kept 27 as_kept 27 0 256 ≡ kept key 256 value
unfolding lays kept
keep-runs = refl

-- a value that is cut short ends there
cut-runs : lays Form.Public 27 as_kept 10 0 256 ≡ 7 ∷ 0 ∷ 2 ∷ 8 ∷ 1 ∷ 0 ∷ 0 ∷ 1 ∷ []
unfolding lays members_c
cut-runs = refl

-- README's table, `a=1,b=${a}`, whose keys are the numbers 1 and 2: from text 0 in the room to text 1 in the sheet
abbrev room : List ℕ
room = 7 ∷ 0 ∷ 20 ∷ 8 ∷ 0 ∷ 1 ∷ 0 ∷ 1 ∷ 4 ∷ 0 ∷ 1 ∷ 0 ∷ 1 ∷ 8 ∷ 0 ∷ 2 ∷ 0 ∷ 1 ∷ 4 ∷ 0 ∷ 3 ∷ 0 ∷ 1 ∷ []

abbrev table : List ℕ
table = 7 ∷ 0 ∷ 2 ∷ 8 ∷ 0 ∷ 1 ∷ 0 ∷ 1 ∷ 4 ∷ 0 ∷ 2 ∷ 0 ∷ 1 ∷ 8 ∷ 0 ∷ 3 ∷ 0 ∷ 1 ∷ 4 ∷ 0 ∷ 4 ∷ 0 ∷ 1 ∷ []

table_runs : lays Form.Public 23 room 23 0 1 ≡ table
unfolding lays members_c
table_runs = refl

table_same : eq_at table 0 (lays Form.Public 23 room 23 0 1) ≡ true
unfolding lays members_c eq_at
table_same = refl

-- with texts from elsewhere on it is another table
elsewhere : eq_at table 0 (lays Form.Public 23 room 23 0 0) ≡ false
unfolding lays members_c eq_at
elsewhere = refl
