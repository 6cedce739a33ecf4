-- A job's memory, in one picture: a table of numbers, bytes, and the evaluator's stack of numbers. What the evaluator adds behind the table and
-- behind the bytes is in eval_keys' Columns and in eval_state's Memories.
--
-- The table: two bytes a number.
--
--      0         8        16             INDEX = 8 * CAPACITY       TABLE = ANSWERS
--      +---------+---------+--- .. ---+---+--------------------------+--------------------------+
--      | item 0, | item 1  |   items  |   | index: the item of each  | answers: the record of   |
--      | the root| ..      |          |   | unresolved value         | each unresolved value    |
--      +---------+---------+--- .. ---+---+--------------------------+--------------------------+
--        an item: kind, size, key, keylen,  by the value's number,      by the value's number,
--        text, textlen, place, number       256 of them                 256 of them
--        in preorder (specs/Holds)                                      0 none yet, 1 undefined, else 2 and its offset in the trail
--
-- The bytes.
--
--      0                                  SHEET                      TRAIL                     BYTES
--      +----------------------------------+--------------------------+-------------------------+
--      | the document's texts: one read   | the sheet's texts: what  | the answers' records as |
--      | at place p begins at 2 p or      | its records point at     | they are kept, at their |
--      | before, behind the one before it |                          | offsets in the trail    |
--      +----------------------------------+--------------------------+-------------------------+
--      2 * 32,768 bytes                   32,768                     32,768
--
-- The evaluator's stack, two numbers an entry: a layer, which is an item by its index or a kept record by CAPACITY and its offset, and a link.
-- In front of it stands, for each key number, where its first member is (eval_groups).
--
--      0            lo                    hi       base               top                      its length
--      +------------+---------------------+--------+------------------+------------------------+
--      | what lies  | the layers of a     |        | those one key    | free                   |
--      | below stays| path, the last one  |        | deeper, laid     |                        |
--      |            | written on top      |        | while walking    |                        |
--      +------------+---------------------+--------+------------------+------------------------+
use Rattle.std.specs.Prelude.{ℕ, ◌+◌, ◌*◌}
use Rattle.rules.specs.Sizes.{max_items, max_unresolved, max_document, max_room}
use Rattle.doc_items.specs.Codes.{width}

-- ---- the table

-- what a number of the table is less than: it has two bytes
abbrev pub number_bound : ℕ
number_bound = 65536

-- How many items a table has room for, the root's included. It is apart from the limit on items, which counts no root: items that the
-- limit does not count may join.
abbrev pub capacity : ℕ
capacity = max_items + 1

-- where the index from an unresolved value's number to its item begins
abbrev pub index_at : ℕ
index_at = width * capacity

-- a table's numbers: its items and that index
abbrev pub table_room : ℕ
table_room = index_at + max_unresolved

-- where the answers of the unresolved values stand
abbrev pub answers_at : ℕ
answers_at = table_room

-- ---- the bytes

-- room for the texts of any document: two bytes for each of its own
abbrev pub text_room : ℕ
text_room = 2 * max_document

-- where the sheet's texts stand
abbrev pub sheet_at : ℕ
sheet_at = text_room

-- where the trail's records stand
abbrev pub trail_at : ℕ
trail_at = sheet_at + max_room

-- all bytes of a job
abbrev pub bytes_room : ℕ
bytes_room = trail_at + max_room
