-- Small values, as kept and as public records.
use Rattle.std.specs.Prelude.{◌≡◌, refl, ℕ, cond, List, [], ◌∷◌, eqb}
use Rattle.rules.specs.Bytes.{Text}
use Rattle.rules.specs.Tree.{null, number, string}
use Rattle.rules.specs.Sheet.{texts}
use Rattle.sheet_kept.specs.Kept.{Held, simple, listed, keyed, no-helds, also, no_fields, field, named, kept, layout}

-- ---- README's sheet: the table of `a=1,b=${a}`, where a is the key number 1 and b the key number 2

abbrev ab : ℕ → Text
ab n = cond (eqb n 1) (97 ∷ []) (98 ∷ [])

abbrev sheet_table : Held
sheet_table = keyed (field 1 (simple (number (49 ∷ []))) (field 2 (simple (number (49 ∷ []))) no_fields))

-- its texts begin behind the trail's one byte
table-laid : layout ab 1 sheet_table ≡ 7 ∷ 0 ∷ 2 ∷ 8 ∷ 0 ∷ 1 ∷ 0 ∷ 1 ∷ 4 ∷ 0 ∷ 2 ∷ 0 ∷ 1 ∷ 8 ∷ 0 ∷ 3 ∷ 0 ∷ 1 ∷ 4 ∷ 0 ∷ 4 ∷ 0 ∷ 1 ∷ []
unfolding layout
table-laid = refl

-- a key's number in place of its text's offset, the length of what is inside in place of the count; the running number passes over a key's text
table_kept : kept ab 1 sheet_table ≡ 7 ∷ 0 ∷ 20 ∷ 8 ∷ 0 ∷ 1 ∷ 0 ∷ 1 ∷ 4 ∷ 0 ∷ 2 ∷ 0 ∷ 1 ∷ 8 ∷ 0 ∷ 2 ∷ 0 ∷ 1 ∷ 4 ∷ 0 ∷ 4 ∷ 0 ∷ 1 ∷ []
unfolding kept
table_kept = refl

table-texts : texts (named ab sheet_table) ≡ 97 ∷ 49 ∷ 98 ∷ 49 ∷ []
unfolding texts named
table-texts = refl

-- ---- { k: 12, l: [null, "xy"] }, where k has the number 3 and l the number 260

abbrev pub key : ℕ → Text
key n = cond (eqb n 3) (107 ∷ []) (108 ∷ [])

abbrev pub value : Held
value =
    keyed (field 3 (simple (number (49 ∷ 50 ∷ [])))
    (field 260 (listed (also (simple null) (also (simple (string (120 ∷ 121 ∷ []))) no-helds))) no_fields))

abbrev pub as_kept : List ℕ
as_kept = 7 ∷ 0 ∷ 24 ∷ 8 ∷ 0 ∷ 3 ∷ 0 ∷ 1 ∷ 4 ∷ 0 ∷ 1 ∷ 0 ∷ 2 ∷ 8 ∷ 1 ∷ 4 ∷ 0 ∷ 1 ∷ 6 ∷ 0 ∷ 6 ∷ 1 ∷ 5 ∷ 0 ∷ 4 ∷ 0 ∷ 2 ∷ []

-- from the offset 256 on
abbrev pub as_laid : List ℕ
as_laid = 7 ∷ 0 ∷ 2 ∷ 8 ∷ 1 ∷ 0 ∷ 0 ∷ 1 ∷ 4 ∷ 1 ∷ 1 ∷ 0 ∷ 2 ∷ 8 ∷ 1 ∷ 3 ∷ 0 ∷ 1 ∷ 6 ∷ 0 ∷ 2 ∷ 1 ∷ 5 ∷ 1 ∷ 4 ∷ 0 ∷ 2 ∷ []

value-kept : kept key 0 value ≡ as_kept
unfolding kept
value-kept = refl

value-laid : layout key 256 value ≡ as_laid
unfolding layout
value-laid = refl

value-texts : texts (named key value) ≡ 107 ∷ 49 ∷ 50 ∷ 108 ∷ 120 ∷ 121 ∷ []
unfolding texts named
value-texts = refl
