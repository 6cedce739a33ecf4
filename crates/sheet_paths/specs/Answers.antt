-- Document 01's number and values for each case of the code's answers; and their packing into 64 bits for C.
use Rattle.std.specs.Prelude.{Result, Ok, Err, ◌≡◌, refl, ℕ, ◌+◌, ◌*◌, ◌≤◌, ◌<◌, cond, List, [], take, drop, eqb}
use Rattle.rules.specs.Jobs as J
use Rattle.text_chars.specs.declared.DocAt.{DocAt}
use Rattle.text_chars.specs.declared.RecAt.{RecAt}
use Rattle.text_chars.specs.declared.RecLen.{RecLen}
use Rattle.text_chars.specs.declared.Refusal.{Refusal}
use Rattle.text_chars.specs.Cursor.{refusal}
use Rattle.sheet_paths.specs.declared.Part.{Part}

-- what a path names: a value's part of the table, or a refusal
abbrev pub Found : Type 0
Found = Result Part Refusal

abbrev pub part : RecAt → RecLen → Part
part start size = record { start = start; size = size }

-- the paper's number, place, start and size for each case
abbrev pub job_of : Found → J.Found
job_of (Ok v) = record { number = 0; place = 0; start = v.start.0; size = v.size.0 }
job_of (Err e) = record { number = e.number; place = e.place.0; start = 0; size = 0 }

-- the part of the table that is handed back; on a refusal it is empty
unfoldable pub part_of : List ℕ → J.Found → List ℕ
part_of table f = take f.size (drop f.start table)

pub refused-part : (table : List ℕ) (number : ℕ) (place : DocAt) → part_of table (job_of (Err (refusal number place))) ≡ []
unfolding part_of
refused-part table number place = refl

-- Look-up in 64 bits. Bits 0 to 5: the number. Found: bits 6 to 21 the start, bits 22 to 37 the size. Refused: bits 6 to 21 the place.
unfoldable pub packed : J.Found → ℕ
packed f = cond (eqb f.number 0) (f.start * 64 + f.size * 4194304) (f.number + f.place * 64)

-- each value has room in its bits, so that none spills; a refusal's number is not 0
abbrev pub HasRoom : Found → Type 0
HasRoom (Ok v) = (v.start.0 < 65536) × (v.size.0 < 65536)
HasRoom (Err e) = (1 ≤ e.number) × (e.number < 64) × (e.place.0 < 65536)

pub record Packable (f : Found) : Type 0 where
  pub room : HasRoom f
