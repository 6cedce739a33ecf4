-- Document 02, No. 9, shown by computation: the examples of the readings that docs/DECISIONS.md has (S1 to S6).
use Rattle.std.specs.Prelude.{◌≡◌, refl, ℕ, zero, suc, List, [], ◌∷◌, ◌++◌, map, replicate}
use Prim.Native.String.{String}
use Rattle.rules.specs.Tree.{null}
use Rattle.rules.specs.Values.{Value, scalar, array_of, Values, no-values, val}
use Rattle.rules.specs.Sheet.{records, texts}
use Rattle.rules.specs.Jobs.{Found}
use Rattle.rules.specs.Cases.{bytes, num, str, arr, obj}
use Rattle.rules_tables.specs.SizedTables.{sized_records}
use Rattle.rules_tables.specs.Edits.{becomes}
use Rattle.rules_tables.specs.Jobs.{no_sized_table, to_sized_job, from_sized_job, look_up_sized_job, Edited, edit_job, settled}

-- the plain and the sized table of `a=1`
abbrev plain_a : List ℕ
plain_a = 7 ∷ 0 ∷ 1 ∷ 8 ∷ 0 ∷ 0 ∷ 0 ∷ 1 ∷ 4 ∷ 0 ∷ 1 ∷ 0 ∷ 1 ∷ []

abbrev sized_a : List ℕ
sized_a = 7 ∷ 0 ∷ 1 ∷ 0 ∷ 10 ∷ 8 ∷ 0 ∷ 0 ∷ 0 ∷ 1 ∷ 4 ∷ 0 ∷ 1 ∷ 0 ∷ 1 ∷ []

-- ---- conversion

there : to_sized_job plain_a (bytes "a1") 15 2 ≡ record { number = 0; table = sized_a; text = bytes "a1" }
unfolding to_sized_job bytes
there = refl

back : from_sized_job sized_a (bytes "a1") 13 ≡ record { number = 0; table = plain_a }
unfolding from_sized_job bytes
back = refl

-- it writes a text of its own
own-text : to_sized_job (7 ∷ 0 ∷ 1 ∷ 8 ∷ 0 ∷ 1 ∷ 0 ∷ 1 ∷ 4 ∷ 0 ∷ 0 ∷ 0 ∷ 1 ∷ []) (bytes "1ax") 15 2
    ≡ record { number = 0; table = sized_a; text = bytes "a1" }
unfolding to_sized_job bytes
own-text = refl

-- 1, 15, 36, 14, in this order
refusals : (to_sized_job (replicate 32769 1) [] 0 0 ≡ no_sized_table 1) × (to_sized_job sized_a (bytes "a1") 0 0 ≡ no_sized_table 15)
    × (to_sized_job (records 0 (obj (("a", num "1") ∷ ("a", num "2") ∷ []))) (bytes "a1a2") 0 0 ≡ no_sized_table 36)
    × (to_sized_job plain_a (bytes "a1") 14 2 ≡ no_sized_table 14) × (to_sized_job plain_a (bytes "a1") 15 1 ≡ no_sized_table 14)
    × (from_sized_job sized_a (bytes "a1") 12 ≡ record { number = 14; table = [] })
unfolding to_sized_job from_sized_job bytes records obj num
refusals = (refl, refl, refl, refl, refl, refl)

-- ---- what is no sized table

-- the number that look-up of `a` gives
unfoldable asked : (table : List ℕ) (text : String) → ℕ
unfolding look_up_sized_job bytes
asked table text = (look_up_sized_job table (bytes text) (bytes "a")).number

sized : asked sized_a "a1" ≡ 0
unfolding asked
sized = refl

-- arrays so many deep
unfoldable deep : ℕ → Value
deep zero = scalar null
deep (suc n) = array_of (val (deep n) no-values)

unfoldable 15s : List ℕ
unfolding asked sized_records obj num deep
15s =
    -- a text left over, the first one not at 0, document 01's table
    asked sized_a "a1x" ∷ asked (7 ∷ 0 ∷ 1 ∷ 0 ∷ 10 ∷ 8 ∷ 0 ∷ 1 ∷ 0 ∷ 1 ∷ 4 ∷ 0 ∷ 2 ∷ 0 ∷ 1 ∷ []) "xa1" ∷ asked plain_a "a1"
    -- a wrong length, a wrong count, something behind
    ∷ asked (7 ∷ 0 ∷ 1 ∷ 0 ∷ 9 ∷ 8 ∷ 0 ∷ 0 ∷ 0 ∷ 1 ∷ 4 ∷ 0 ∷ 1 ∷ 0 ∷ 1 ∷ []) "a1"
    ∷ asked (7 ∷ 0 ∷ 2 ∷ 0 ∷ 10 ∷ 8 ∷ 0 ∷ 0 ∷ 0 ∷ 1 ∷ 4 ∷ 0 ∷ 1 ∷ 0 ∷ 1 ∷ []) "a1"
    ∷ asked (sized_a ++ (1 ∷ [])) "a1"
    -- equal keys, a key record of edition 2, nesting of 33
    ∷ asked (sized_records 0 (obj (("a", num "1") ∷ ("a", num "2") ∷ []))) "a1a2"
    ∷ asked (7 ∷ 0 ∷ 1 ∷ 0 ∷ 13 ∷ 11 ∷ 0 ∷ 0 ∷ 0 ∷ 1 ∷ 0 ∷ 0 ∷ 0 ∷ 4 ∷ 0 ∷ 1 ∷ 0 ∷ 1 ∷ []) "a1"
    ∷ asked (sized_records 0 (deep 33)) ""
    ∷ []

not-sized : 15s ≡ replicate 9 15
unfolding 15s
not-sized = refl

-- ---- look-up: start and size are of the sized records

found : (table text : List ℕ) → String → Found
unfolding look_up_sized_job bytes
found table text path = look_up_sized_job table text (bytes path)

abbrev nested : Value
nested = obj (("x", arr (num "1" ∷ [])) ∷ ("a", obj (("b", num "23") ∷ [])) ∷ [])

looked-up : map (found (sized_records 0 nested) (texts nested)) ("a" ∷ "a.b" ∷ "a.c" ∷ "x.0" ∷ "a..b" ∷ "a b\"" ∷ [])
    ≡ record { number = 0; place = 0; start = 25; size = 15 } ∷ record { number = 0; place = 0; start = 35; size = 5 }
    ∷ record { number = 16; place = 0; start = 0; size = 0 } ∷ record { number = 16; place = 0; start = 0; size = 0 }
    ∷ record { number = 7; place = 0; start = 0; size = 0 } ∷ record { number = 4; place = 4; start = 0; size = 0 } ∷ []
unfolding found sized_records texts obj arr num
looked-up = refl

-- ---- edits

-- an edit of a tree's sized table in full rooms, by the value's records and text
unfoldable pub edited_by : (kind : ℕ) (tree : Value) (path : String) (value value_text : List ℕ) → Edited
unfolding bytes edit_job sized_records texts
edited_by kind tree path value value_text = edit_job kind (sized_records 0 tree) (texts tree) (bytes path) value value_text 32768 32768

-- of which kind, in which tree, at which path, by which value; the number, and the tree of the resulting table
pub record Asked : Type 0 where
  pub kind : ℕ
  pub tree : Value
  pub path : String
  pub value : Value
  pub number : ℕ
  pub after : Value

unfoldable answer : Asked → Edited
unfolding edited_by records texts
answer x = edited_by x.kind x.tree x.path (records 0 x.value) (texts x.value)

unfoldable expected : Asked → Edited
unfolding sized_records texts
expected x = record { number = x.number; place = 0; table = sized_records 0 x.after; text = texts x.after }

abbrev made : (kind : ℕ) (tree : Value) (path : String) (value after : Value) → Asked
made k t p v a = record { kind = k; tree = t; path = p; value = v; number = 0; after = a }

-- "nothing changes then"
abbrev kept : (kind : ℕ) (tree : Value) (path : String) (value : Value) (number : ℕ) → Asked
kept k t p v n = record { kind = k; tree = t; path = p; value = v; number = n; after = t }

-- {a:1}, {a:[1]}, {a:{b:[1]}}
unfoldable pub a1 : Value
unfolding obj num
a1 = obj (("a", num "1") ∷ [])

unfoldable pub a_list : Value
unfolding obj arr num
a_list = obj (("a", arr (num "1" ∷ [])) ∷ [])

unfoldable a_object : Value
unfolding obj arr num
a_object = obj (("a", obj (("b", arr (num "1" ∷ [])) ∷ [])) ∷ [])

unfoldable edits : List Asked
unfolding num str arr obj a1 a_list a_object
edits =
    -- replace: only a simple value, by any
    made 1 a1 "a" (scalar null) (obj (("a", scalar null) ∷ []))
    ∷ made 1 (obj (("a", num "1") ∷ ("b", num "2") ∷ ("c", num "3") ∷ [])) "b" (str "long")
    (obj (("a", num "1") ∷ ("b", str "long") ∷ ("c", num "3") ∷ []))
    ∷ made 1 (obj (("a", obj (("b", a1) ∷ ("c", num "2") ∷ [])) ∷ ("d", num "3") ∷ [])) "a.b.a" (num "44")
    (obj (("a", obj (("b", obj (("a", num "44") ∷ [])) ∷ ("c", num "2") ∷ [])) ∷ ("d", num "3") ∷ []))
    ∷ kept 1 a1 "a" (obj []) 34
    ∷ kept 1 a_object "a" (num "2") 34
    ∷ kept 1 a_list "a" (num "2") 34
    ∷ kept 1 a1 "b" (arr []) 16
    -- remove: any field
    ∷ made 2 (obj (("a", a_list) ∷ ("c", num "2") ∷ [])) "a" (scalar null) (obj (("c", num "2") ∷ []))
    ∷ made 2 a_object "a.b" (scalar null) (obj (("a", obj []) ∷ []))
    ∷ made 2 a1 "a" (scalar null) (obj [])
    ∷ kept 2 a1 "b" (scalar null) 16
    ∷ kept 2 a_list "a.0" (scalar null) 16
    -- append: the field goes last
    ∷ made 3 a1 "b" (num "2") (obj (("a", num "1") ∷ ("b", num "2") ∷ []))
    ∷ made 3 (obj []) "include" (num "1") (obj (("include", num "1") ∷ []))
    ∷ made 3 (obj (("a", obj []) ∷ ("b", num "1") ∷ [])) "a.\"x.y\"" (num "2")
    (obj (("a", obj (("x.y", num "2") ∷ [])) ∷ ("b", num "1") ∷ []))
    ∷ kept 3 a1 "b.c" (num "1") 16
    ∷ kept 3 a1 "a.c" (num "1") 34
    ∷ kept 3 a_list "a.0.c" (num "1") 16
    ∷ kept 3 (arr (num "1" ∷ [])) "c" (num "1") 34
    ∷ kept 3 a1 "a" (arr []) 34
    ∷ kept 3 a1 "a" (num "2") 35
    -- a path text that is refused, and kinds that are none
    ∷ kept 1 a1 "a..b" (num "2") 7
    ∷ kept 0 a1 "a" (num "2") 1
    ∷ kept 4 a1 "a" (num "2") 1
    ∷ []

edits-hold : map answer edits ≡ map expected edits
unfolding edits answer expected
edits-hold = refl

-- the value's 15 comes before the path, and is not asked for where a field is removed
no_value : ((edited_by 1 a1 "a..b" (9 ∷ []) []).number ≡ 15) × ((edited_by 1 a1 "a" (7 ∷ 0 ∷ 0 ∷ 0 ∷ 0 ∷ []) []).number ≡ 15)
    × ((edited_by 2 a1 "a" (9 ∷ []) []).number ≡ 0)
unfolding edited_by a1
no_value = (refl, refl, refl)

-- a path of 17 elements is 8
seventeen : (edited_by 3 a1 "a.b.c.d.e.f.g.h.i.j.k.l.m.n.o.p.q" (1 ∷ []) []).number ≡ 8
unfolding edited_by a1
seventeen = refl

-- 35 is judged before 13
stands-first : (edited_by 3 a1 "a" (5 ∷ 0 ∷ 0 ∷ 64 ∷ 0 ∷ []) (replicate 16384 97)).number ≡ 35
unfolding edited_by a1
stands-first = refl

-- rooms are of the table after the edit, and a used length over its buffer is 1
unfoldable roomed : (kind : ℕ) (path : String) (table_length text_length : ℕ) → ℕ
unfolding edit_job bytes
roomed kind path table_length text_length = (edit_job kind sized_a (bytes "a1") (bytes path) (1 ∷ []) [] table_length text_length).number

rooms : (roomed 3 "b" 21 3 ≡ 0) × (roomed 3 "b" 20 3 ≡ 14) × (roomed 3 "b" 21 2 ≡ 14)
    × (roomed 2 "a" 15 2 ≡ 0) × (roomed 2 "a" 14 2 ≡ 1) × (roomed 2 "a" 15 1 ≡ 1)
unfolding roomed
rooms = (refl, refl, refl, refl, refl, refl)

-- ---- sizes: 13 of the table after the edit, over records without the lengths

-- so many empty arrays: 3 bytes each in a plain table, 5 in a sized one
unfoldable arrays : ℕ → Values
arrays zero = no-values
arrays (suc n) = val (array_of no-values) (arrays n)

unfoldable pub judged : ℕ → ℕ
unfolding settled arrays
judged n = (settled [] [] 32768 32768 (becomes (array_of (arrays n)))).number

too_large : (judged 5460 ≡ 0) × (judged 5461 ≡ 13)
unfolding judged
too_large = (refl, refl)
