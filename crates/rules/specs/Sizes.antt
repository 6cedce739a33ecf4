-- Document 01, "Sizes".
use Rattle.std.specs.Prelude.{ℕ}

-- "Document 0 to 32,768 bytes."
abbrev pub max_document : ℕ
max_document = 32768

-- "Environment at most 8,192 bytes and 64 entries"
abbrev pub max_environment : ℕ
max_environment = 8192

abbrev pub max_entries : ℕ
max_entries = 64

-- "Budget 0 to 256."
abbrev pub max_budget : ℕ
max_budget = 256

-- "Path text at most 1,024 bytes."
abbrev pub max_path_text : ℕ
max_path_text = 1024

-- "Nesting 32 (the root is 1)."
abbrev pub max_nesting : ℕ
max_nesting = 32

-- "Items (fields after path expansion, elements, pieces of values) 2,048."
abbrev pub max_items : ℕ
max_items = 2048

-- "Blends 256." (unresolved values)
abbrev pub max_unresolved : ℕ
max_unresolved = 256

-- "Path elements 16."
abbrev pub max_path : ℕ
max_path = 16

-- "Any piece's value and join so far in a blend, any answer and the table: nested at most 32, 16,384 bytes of records, 16,384 of text."
abbrev pub max_records : ℕ
max_records = 16384

abbrev pub max_text : ℕ
max_text = 16384

-- "Each output buffer may have any length; its first 32,768 bytes are its room"; also what may be lent to check and look-up.
abbrev pub max_room : ℕ
max_room = 32768

-- Document 02, No. 3: a length "over 1,000,000" micrometres is refused
abbrev pub max_micrometres : ℕ
max_micrometres = 1000000
