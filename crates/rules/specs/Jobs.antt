-- Document 01, "The three jobs"; and document 02's lengths.
use Rattle.std.specs.Prelude.{ℕ, ◌-◌, min, List, [], ◌++◌, true, false, ◌&&◌, leb, eqb, length, replicate}
use Rattle.std.proofs.Math.Option.{Option, none, some}
use Rattle.answers.specs.Ask.{Trail}
use Rattle.answers.specs.Resolve.{Rules, Res, answer, refused, dry, resolve}
use Rattle.rules.specs.Sizes.{max_budget, max_path_text, max_nesting, max_room}
use Rattle.rules.specs.Bytes.{Text, byte_at, within}
use Rattle.rules.specs.Kinds as kinds
use Rattle.rules.specs.Refusals.{Refusal, placed, nowhere, spent, number_of, place_of, document_of, offset_of, Scan, ok, refused}
use Rattle.rules.specs.Utf8.{ill_formed}
use Rattle.rules.specs.Positions.{line_of, column_of}
use Rattle.rules.specs.Paths.{path_text}
use Rattle.rules.specs.Values.{Value, Answer, within_size}
use Rattle.rules.specs.Unresolved.{root_value}
use Rattle.rules.specs.Documents.{Setting, Input, valid, refused, inputs, rule_of, count_of, first_byte}
use Rattle.rules.specs.Sheet.{records, texts, trail_text_size, trail_records, trail_texts, trail_fits, table_fits}
use Rattle.rules.specs.Checking.{accepted}
use Rattle.rules.specs.LookUp.{is_whole, after_value, text_at, value_named}
use Rattle.rules.specs.Micrometres.{Measured, no_length, length_of}

-- ---- "Resolve: document, environment and budget in; trail, table, text and a count out."

-- What resolving comes to: a refusal's number and place, or 0, the count and the used parts. On a refusal they are empty.
pub record Result : Type 0 where
  pub number : ℕ
  pub place : ℕ
  pub count : ℕ
  pub trail : List ℕ
  pub table : List ℕ
  pub text : List ℕ

-- "A refusal's count is 0."
unfoldable pub refused_with : Refusal → Result
refused_with x = record { number = number_of x; place = place_of x; count = 0; trail = []; table = []; text = [] }

-- "its first 32,768 bytes are its room"
abbrev pub room_of : ℕ → ℕ
room_of length = min length max_room

-- "A needed blend is taken from the trail; else 10; else 12; else it is begun, and when answered becomes the next entry." "loops of
-- optional names are 10 too".
unfoldable pub order_of : (x : Setting) (trail_room text_room : ℕ) → Rules Refusal Answer
unfolding rule_of first_byte trail_fits
order_of x trail_room text_room = record {
  rule = rule_of x;
  circular = λ b. placed 10 (first_byte x b);
  excess = λ b. placed 12 (first_byte x b);
  full = nowhere 14;
  fits = trail_fits trail_room text_room;
}

-- what is handed back on success: the root's value, the trail and the count
abbrev pub sheet_for : Value → Trail Answer → ℕ → Result
sheet_for v S n = record {
  number = 0;
  place = 0;
  count = n;
  trail = trail_records S;
  table = records (trail_text_size S) v;
  text = trail_texts S ++ texts v;
}

-- "After the trail, the table's size is tested (13), then it is written (14)."
unfoldable pub handed_back : (table_room text_room : ℕ) (m : Res Refusal Answer Value) → Result
unfolding within_size table_fits refused_with records texts trail_text_size trail_records trail_texts
handed_back table_room text_room (refused x) = refused_with x
handed_back table_room text_room dry = refused_with spent
handed_back table_room text_room (answer v S n) =
    elim (within_size v) [
      | false ↦ refused_with (nowhere 13)
      | true ↦ elim (table_fits table_room text_room S v) [ false ↦ refused_with (nowhere 14) | true ↦ sheet_for v S n ]
    ]

unfoldable pub resolved : (budget trail_room table_room text_room : ℕ) (i : Input Setting) → Result
unfolding refused_with order_of root_value handed_back
resolved budget trail_room table_room text_room (refused x) = refused_with x
resolved budget trail_room table_room text_room (valid x) =
    handed_back table_room text_room
    (resolve (order_of x trail_room text_room) budget (root_value x.document.root x.environment) (count_of x))

-- What resolve tells. Document 02, No. 4: a place is a document's number and an offset in it, with the line and the column.
pub record Resolved : Type 0 where
  pub number : ℕ
  pub document : ℕ
  pub place : ℕ
  pub line : ℕ
  pub column : ℕ
  pub count : ℕ
  pub trail : List ℕ
  pub table : List ℕ
  pub text : List ℕ

abbrev pub located : (document : List ℕ) → Result → Resolved
located document r = record {
  number = r.number;
  document = document_of r.place;
  place = offset_of r.place;
  line = line_of document r.number r.place;
  column = column_of document r.number r.place;
  count = r.count;
  trail = r.trail;
  table = r.table;
  text = r.text;
}

unfoldable pub resolve_job : (document environment : List ℕ) (budget trail_length table_length text_length : ℕ) → Resolved
unfolding inputs resolved line_of column_of
resolve_job document environment budget trail_length table_length text_length =
    located document
    (resolved budget (room_of trail_length) (room_of table_length) (room_of text_length)
    (inputs (leb budget max_budget) document environment))

-- "Bytes not used are zero, after success too": what a lent output buffer of this size holds afterwards
unfoldable pub filled : ℕ → List ℕ → List ℕ
filled size used = used ++ replicate (size - length used) 0

-- The output buffers after resolve, of any sizes, refused or not: every byte of them. This is what the code's contract will name.
pub record Buffers : Type 0 where
  pub trail : List ℕ
  pub table : List ℕ
  pub text : List ℕ

unfoldable pub buffers_of : (trail_length table_length text_length : ℕ) (r : Resolved) → Buffers
unfolding filled
buffers_of trail_length table_length text_length r = record {
  trail = filled trail_length r.trail;
  table = filled table_length r.table;
  text = filled text_length r.text;
}

-- ---- "Check: document, environment and a sheet (exactly those three parts, no spare tail) in; yes, or a refusal: 1 to 8 and a reading 11
-- as in resolve, else 17."

-- the place is told as in resolve
pub record Verdict : Type 0 where
  pub number : ℕ
  pub document : ℕ
  pub place : ℕ
  pub line : ℕ
  pub column : ℕ

abbrev pub yes : Verdict
yes = record { number = 0; document = 0; place = 0; line = 0; column = 0 }

abbrev pub refused_at : (document : List ℕ) (number place : ℕ) → Verdict
refused_at document number place = record {
  number = number;
  document = document_of place;
  place = offset_of place;
  line = line_of document number place;
  column = column_of document number place;
}

unfoldable pub verdict : (document trail table text : List ℕ) (i : Input Setting) → Verdict
unfolding accepted line_of column_of
verdict document trail table text (refused x) = refused_at document (number_of x) (place_of x)
verdict document trail table text (valid x) = elim (accepted x trail table text) [ true ↦ yes | false ↦ refused_at document 17 0 ]

-- "a part of a sheet, lent to check or look-up, is over 32,768 bytes" is number 1
unfoldable pub check_job : (document environment trail table text : List ℕ) → Verdict
unfolding inputs verdict
check_job document environment trail table text =
    verdict document trail table text
    (inputs (leb (length trail) max_room && leb (length table) max_room && leb (length text) max_room) document environment)

-- ---- "Look up: table, text and a path in; it hands back that part of the caller's own records which is the named value."

-- where the part starts, and its size
pub record Found : Type 0 where
  pub number : ℕ
  pub place : ℕ
  pub start : ℕ
  pub size : ℕ

unfoldable pub not_found : Refusal → Found
not_found x = record { number = number_of x; place = place_of x; start = 0; size = 0 }

-- a part of the table
abbrev pub part_at : (start size : ℕ) → Found
part_at start size = record { number = 0; place = 0; start = start; size = size }

-- "path names nothing" is 16
unfoldable pub found_at : (table text : List ℕ) (place : Option ℕ) → Found
unfolding after_value not_found
found_at table text none = not_found (nowhere 16)
found_at table text (some at) =
    elim (after_value max_nesting table (length text) at) [
      | none ↦ not_found spent
      | some end ↦ part_at at (end - at)
    ]

unfoldable pub looked_up : (table text : List ℕ) (path : Scan (List Text)) → Found
unfolding not_found found_at value_named
looked_up table text (refused x) = not_found x
looked_up table text (ok path end) = found_at table text (value_named table text path 0)

-- "Look up: 1, 15, then 2 to 8 on the path text (6 is not given there), then 16."
unfoldable pub look_up_job : (table text path : List ℕ) → Found
unfolding is_whole ill_formed path_text not_found looked_up
look_up_job table text path =
    elim (leb (length table) max_room && leb (length text) max_room && leb (length path) max_path_text) [
      | false ↦ not_found (nowhere 1)
      | true ↦ elim (is_whole table (length text)) [
        | false ↦ not_found (nowhere 15)
        | true ↦ elim (ill_formed path) [ some place ↦ not_found (placed 2 place) | none ↦ looked_up table text (path_text path) ]
      ]
    ]

-- ---- Document 02, No. 3: "a reader of lengths from a looked-up value". Its records and the text part in; micrometres, or a refusal, out.

-- a length is written in a number or a string; any other value is malformed, 20
unfoldable pub record_length : (table text : List ℕ) → Measured
unfolding text_at no_length length_of
record_length table text =
    elim (within kinds.number kinds.string (byte_at table 0)) [
      | true ↦ length_of (eqb (byte_at table 0) kinds.string) (text_at table text 0)
      | false ↦ no_length (nowhere 20)
    ]

-- "tested in the order named, after 1 and 15", which are look-up's
unfoldable pub length_job : (table text : List ℕ) → Measured
unfolding is_whole no_length record_length
length_job table text =
    elim (leb (length table) max_room && leb (length text) max_room) [
      | false ↦ no_length (nowhere 1)
      | true ↦ elim (is_whole table (length text)) [ false ↦ no_length (nowhere 15) | true ↦ record_length table text ]
    ]
