-- Document 01, "Numbers and places": refusals, and readings that may end in one.
use Rattle.std.specs.Prelude.{ℕ, ◌/◌, ◌%◌, List, [], ◌∷◌, true, false, leb, length}

-- The paper's numbers: when they are given, and by which definitions.
--  1 an input over its bytes or against its rule, a part of a sheet too long: Documents.inputs, Jobs.look_up_job
--  2 ill-formed UTF-8: Documents.read_tree, Jobs.look_up_job
--  3 a byte that the grammar does not allow: `not_allowed`, Reading.{parted, fieldAt, read_root}, Paths.pathText
--  4 the end inside something open or a field: `ended`
--  5 `-` starting no number: Pieces.numberAt; a bad escape or lone surrogate: Strings.escape_at; a control byte: Strings.body_from
--  6 a key that starts with `include`: Reading.fieldAt
--  7 a substitution in a key: Paths.segments_from; an empty path or path element: Paths.judge
--  8 too many items: Reading.count_item; too deep: Reading.opened; too many key or path elements: Paths.judge; too many unresolved values:
--    Documents.limited
--  9 a required substitution that is undefined: Unresolved.or_environment
-- 10 an unresolved value needed while it is worked out: Jobs.orderOf
-- 11 kinds mixed in one value: Reading.judge_value, Unresolved.join_value
-- 12 one unresolved value more than the budget would begin: Jobs.orderOf
-- 13 a value over its size: Unresolved.sized, Jobs.handed_back
-- 14 an entry, the table or their text does not fit its room: Jobs.{orderOf, handed_back}
-- 15 looked-up records that are not one whole table: Jobs.look_up_job
-- 16 a path that names nothing: Jobs.foundAt
-- 17 a sheet that is not accepted: Jobs.verdict
-- Document 02, No. 3, a length: 1 and 15 as in look-up, then "in this order":
-- 20 malformed: Micrometres.{lengthOf, with_rest, with_unit}, Jobs.record_length
-- 21 a bare number: Micrometres.with_rest
-- 22 a minus sign: Micrometres.with_unit
-- 23 not whole micrometres, 24 over 1,000,000: Micrometres.in_micrometres

-- which of them each job gives (docs/DECISIONS.md, R3 and R43)
abbrev pub resolve_numbers : List ℕ
resolve_numbers = 1 ∷ 2 ∷ 3 ∷ 4 ∷ 5 ∷ 6 ∷ 7 ∷ 8 ∷ 9 ∷ 10 ∷ 11 ∷ 12 ∷ 13 ∷ 14 ∷ []

-- "1 to 8 and a reading 11 as in resolve, else 17"
abbrev pub check_numbers : List ℕ
check_numbers = 1 ∷ 2 ∷ 3 ∷ 4 ∷ 5 ∷ 6 ∷ 7 ∷ 8 ∷ 11 ∷ 17 ∷ []

-- "Look up: 1, 15, then 2 to 8 on the path text (6 is not given there), then 16."
abbrev pub look_up_numbers : List ℕ
look_up_numbers = 1 ∷ 2 ∷ 3 ∷ 4 ∷ 5 ∷ 7 ∷ 8 ∷ 15 ∷ 16 ∷ []

-- a length: "tested in the order named, after 1 and 15"
abbrev pub length_numbers : List ℕ
length_numbers = 1 ∷ 15 ∷ 20 ∷ 21 ∷ 22 ∷ 23 ∷ 24 ∷ []

-- A refusal has its number, and a place in what is read or none (place 0 by the paper's table).
pub data Refusal : Type 0 where
  placed : (number place : ℕ) → Refusal
  nowhere : (number : ℕ) → Refusal

abbrev pub number_of : Refusal → ℕ
number_of (placed number place) = number
number_of (nowhere number) = number

abbrev pub place_of : Refusal → ℕ
place_of (placed number place) = place
place_of (nowhere number) = 0

-- A place is one number: 65,536 times its document's, and the offset in that, which is at most 32,768. There is one document, number 0,
-- so that readings, which give offsets, give places.
abbrev pub per_document : ℕ
per_document = 65536

abbrev pub document_of : (place : ℕ) → ℕ
document_of place = place / per_document

abbrev pub offset_of : (place : ℕ) → ℕ
offset_of place = place % per_document

-- What a definition gives where its fuel runs out: a number of no job's list, and not 0, which is success. No job gives this refusal
-- (modules ReadingEnds, Resolving and LookUps of `theory`).
abbrev pub spent_fuel : ℕ
spent_fuel = 63

abbrev pub spent : Refusal
spent = nowhere spent_fuel

-- number 4 at the length: the end stands here
abbrev pub ended : List ℕ → Refusal
ended s = placed 4 (length s)

-- number 3 at a byte that is not allowed, 4 at the end
unfoldable pub not_allowed : List ℕ → ℕ → Refusal
not_allowed s at = elim (leb (length s) at) [ true ↦ ended s | false ↦ placed 3 at ]

-- what a reading gives: a thing and the place after it, or a refusal
pub data Scan (A : Type 0) : Type 0 where
  ok : (a : A) (at : ℕ) → Scan A
  refused : Refusal → Scan A

abbrev pub and_then : {A B : Type 0} → Scan A → ((a : A) (at : ℕ) → Scan B) → Scan B
and_then (ok a at) k = k a at
and_then (refused x) k = refused x

-- the same with the count of items so far
pub data Read (A : Type 0) : Type 0 where
  got : (a : A) (at items : ℕ) → Read A
  refused : Refusal → Read A

abbrev pub read_then : {A B : Type 0} → Read A → ((a : A) (at items : ℕ) → Read B) → Read B
read_then (got a at items) k = k a at items
read_then (refused x) k = refused x

-- a reading that counts nothing, among those that do: the count of items stays
abbrev pub keep_items : {A : Type 0} (items : ℕ) → Scan A → Read A
keep_items items (ok a at) = got a at items
keep_items items (refused x) = refused x
