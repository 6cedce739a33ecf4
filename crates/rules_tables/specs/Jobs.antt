-- Document 02, No. 9: the jobs. Tables and texts that are handed back are the used parts.
use Rattle.std.specs.Prelude.{ℕ, List, [], ◌∷◌, Bool, true, false, ◌&&◌, ◌||◌, leb, eqb, length}
use Rattle.std.proofs.Math.Option.{Option, none, some}
use Rattle.rules.specs.Sizes.{max_room, max_path_text}
use Rattle.rules.specs.Bytes.{Text}
use Rattle.rules.specs.Refusals.{Refusal, placed, nowhere, number_of, place_of, Scan, ok, refused}
use Rattle.rules.specs.Utf8.{ill_formed}
use Rattle.rules.specs.Paths.{path_text}
use Rattle.rules.specs.Values.{Value, record_size, within_size}
use Rattle.rules.specs.Sheet.{records, texts}
use Rattle.rules.specs.Jobs.{room_of, Found, not_found, part_at}
use Rattle.rules_tables.specs.Trees.{plain_head, Located, tree_of, distinct}
use Rattle.rules_tables.specs.SizedTables.{sized_size, sized_records, sized_tree, sized_fits, sized_named}
use Rattle.rules_tables.specs.Edits.{Edit, replace, remove, append, Outcome, becomes, edited}

-- Which number is given where, all but a path's at place 0: 1 over its bytes, 15 another table, 2 to 8 of the path text as in look-up
-- (path_names), then
-- 16 a path that names nothing: look_up_sized_job, Edits.edited
-- 34 what the path names, or the new value, is of the wrong kind: Edits.edited
-- 35 the appended key stands there: Edits.edited
-- 36 equal keys in one object: to_sized_job
-- 13 the edited tree is over its size: settled
-- 14 a room that is too small: to_sized_job, from_sized_job, settled
-- Look-up in a sized table has look-up's numbers.
abbrev pub to_sized_numbers : List ℕ
to_sized_numbers = 1 ∷ 15 ∷ 36 ∷ 14 ∷ []

abbrev pub from_sized_numbers : List ℕ
from_sized_numbers = 1 ∷ 15 ∷ 14 ∷ []

abbrev pub edit_numbers : List ℕ
edit_numbers = 1 ∷ 15 ∷ 2 ∷ 3 ∷ 4 ∷ 5 ∷ 7 ∷ 8 ∷ 16 ∷ 34 ∷ 35 ∷ 13 ∷ 14 ∷ []

-- a table and its text part that may be lent; otherwise 1
abbrev pub lendable : (table text : List ℕ) → Bool
lendable table text = leb (length table) max_room && leb (length text) max_room

-- ---- "Converting to and from document 01's tables keeps the tree, and a table with equal keys in one object is refused at conversion."

pub record SizedTable : Type 0 where
  pub number : ℕ
  pub table : List ℕ
  pub text : List ℕ

abbrev pub no_sized_table : ℕ → SizedTable
no_sized_table number = record { number = number; table = []; text = [] }

unfoldable pub to_sized_job : (table text : List ℕ) (table_length text_length : ℕ) → SizedTable
unfolding tree_of distinct sized_fits sized_records texts
to_sized_job table text table_length text_length =
    elim (lendable table text) [
      | false ↦ no_sized_table 1
      | true ↦ elim (tree_of plain_head table text) [
        | none ↦ no_sized_table 15
        | some v ↦ elim (distinct v) [
          | false ↦ no_sized_table 36
          | true ↦ elim (sized_fits (room_of table_length) (room_of text_length) v) [
            | false ↦ no_sized_table 14
            | true ↦ record { number = 0; table = sized_records 0 v; text = texts v }
          ]
        ]
      ]
    ]

-- the text part stays
pub record PlainTable : Type 0 where
  pub number : ℕ
  pub table : List ℕ

abbrev pub no_plain_table : ℕ → PlainTable
no_plain_table number = record { number = number; table = [] }

unfoldable pub from_sized_job : (table text : List ℕ) (table_length : ℕ) → PlainTable
unfolding sized_tree record_size records
from_sized_job table text table_length =
    elim (lendable table text) [
      | false ↦ no_plain_table 1
      | true ↦ elim (sized_tree table text) [
        | none ↦ no_plain_table 15
        | some v ↦ elim (leb (record_size v) (room_of table_length)) [
          | false ↦ no_plain_table 14
          | true ↦ record { number = 0; table = records 0 v }
        ]
      ]
    ]

-- ---- look-up in a sized table

-- the elements of a path text, or look-up's "2 to 8 on the path text"
unfoldable pub path_names : (path : List ℕ) → Scan (List Text)
unfolding ill_formed path_text
path_names path = elim (ill_formed path) [ some place ↦ refused (placed 2 place) | none ↦ path_text path ]

-- the part of the sized records that a value with its place is
abbrev pub sized_part : Located Value → Found
unfolding not_found sized_size
sized_part none = not_found (nowhere 16)
sized_part (some p) = part_at p.1 (sized_size p.0)

unfoldable pub looked_up_sized : (tree : Value) (path : Scan (List Text)) → Found
unfolding not_found sized_part sized_named
looked_up_sized v (refused x) = not_found x
looked_up_sized v (ok path end) = sized_part (sized_named path 0 v)

unfoldable pub look_up_sized_job : (table text path : List ℕ) → Found
unfolding not_found sized_tree looked_up_sized path_names
look_up_sized_job table text path =
    elim (lendable table text && leb (length path) max_path_text) [
      | false ↦ not_found (nowhere 1)
      | true ↦ elim (sized_tree table text) [ none ↦ not_found (nowhere 15) | some v ↦ looked_up_sized v (path_names path) ]
    ]

-- ---- edits

-- how an edit is asked for; any other kind is 1
abbrev pub replace_kind : ℕ
replace_kind = 1

abbrev pub remove_kind : ℕ
remove_kind = 2

abbrev pub append_kind : ℕ
append_kind = 3

-- the new value is one whole plain table, else 15; a removal has none, and what is lent is not looked at
unfoldable pub edit_of : (kind : ℕ) (value value_text : List ℕ) → Option Edit
unfolding tree_of
edit_of kind value value_text =
    elim (eqb kind remove_kind) [
      | true ↦ some remove
      | false ↦ elim (tree_of plain_head value value_text) [
        | none ↦ none
        | some new ↦ some (elim (eqb kind replace_kind) [ true ↦ replace new | false ↦ append new ])
      ]
    ]

-- a kind of the three, and nothing over its bytes; of a table and its text the buffer's length too
abbrev pub editable : (kind : ℕ) (table text path value value_text : List ℕ) (table_length text_length : ℕ) → Bool
editable kind table text path value value_text table_length text_length =
    leb replace_kind kind && leb kind append_kind && lendable table text && leb (length path) max_path_text
    && leb (length table) table_length && leb (length text) text_length && (eqb kind remove_kind || lendable value value_text)

unfoldable pub edited_at : (edit : Edit) (path : Scan (List Text)) (tree : Value) → Outcome
unfolding edited
edited_at e (refused x) v = Outcome.refused x
edited_at e (ok path end) v = edited e path v

pub record Edited : Type 0 where
  pub number : ℕ
  pub place : ℕ
  pub table : List ℕ
  pub text : List ℕ

-- "nothing changes then"
abbrev pub unchanged : (table text : List ℕ) → Refusal → Edited
unchanged table text x = record { number = number_of x; place = place_of x; table = table; text = text }

-- "or if a value's size limit, without these lengths, or the lent room would be broken"
unfoldable pub settled : (table text : List ℕ) (table_room text_room : ℕ) → Outcome → Edited
unfolding within_size sized_fits sized_records texts
settled table text table_room text_room (Outcome.refused x) = unchanged table text x
settled table text table_room text_room (becomes v) =
    elim (within_size v) [
      | false ↦ unchanged table text (nowhere 13)
      | true ↦ elim (sized_fits table_room text_room v) [
        | false ↦ unchanged table text (nowhere 14)
        | true ↦ record { number = 0; place = 0; table = sized_records 0 v; text = texts v }
      ]
    ]

-- what an edit makes of the tree, before sizes and rooms
unfoldable pub outcome_of : (kind : ℕ) (table text path value value_text : List ℕ) → Outcome
unfolding sized_tree edit_of edited_at path_names
outcome_of kind table text path value value_text =
    elim (sized_tree table text) [
      | none ↦ Outcome.refused (nowhere 15)
      | some v ↦ elim (edit_of kind value value_text) [ none ↦ Outcome.refused (nowhere 15) | some e ↦ edited_at e (path_names path) v ]
    ]

unfoldable pub edit_job : (kind : ℕ) (table text path value value_text : List ℕ) (table_length text_length : ℕ) → Edited
unfolding settled outcome_of
edit_job kind table text path value value_text table_length text_length =
    elim (editable kind table text path value value_text table_length text_length) [
      | false ↦ unchanged table text (nowhere 1)
      | true ↦ settled table text (room_of table_length) (room_of text_length) (outcome_of kind table text path value value_text)
    ]
