-- Document 01's number and values for each case of the answers of resolve and check; and their packing into 64 bits for C.
use Rattle.std.specs.Prelude.{ℕ, ◌+◌, ◌*◌, ◌≤◌, ◌<◌, cond, List, length, eqb, Result, Ok, Err}
use Rattle.rules.specs.Refusals.{document_of, offset_of}
use Rattle.rules.specs.Positions.{line_of, column_of}
use Rattle.rules.specs.Jobs as J
use Rattle.text_chars.specs.declared.Refusal.{Refusal}
use Rattle.job_results.specs.Places.{packed_refusal, RefusalFits}
use Rattle.job_results.specs.declared.Resolution.{Resolution}

-- ---- resolve

-- The paper's number, place and count, and the length of each part that is used: of the code's answer, and of what resolving comes to.
pub record Told : Type 0 where
  pub number : ℕ
  pub place : ℕ
  pub count : ℕ
  pub trail : ℕ
  pub table : ℕ
  pub text : ℕ

abbrev pub resolution_told : Result Resolution Refusal → Told
resolution_told (Ok v) = record { number = 0; place = 0; count = v.count; trail = v.trail.0; table = v.table.0; text = v.text.0 }
resolution_told (Err x) = record { number = x.number; place = x.place.0; count = 0; trail = 0; table = 0; text = 0 }

abbrev pub result_told : J.Result → Told
result_told r = record {
  number = r.number;
  place = r.place;
  count = r.count;
  trail = length r.trail;
  table = length r.table;
  text = length r.text;
}

-- The same with the place as the job tells it. First of the code's answer to a document, then of the job's.
pub record Located : Type 0 where
  pub number : ℕ
  pub document : ℕ
  pub place : ℕ
  pub line : ℕ
  pub column : ℕ
  pub count : ℕ
  pub trail : ℕ
  pub table : ℕ
  pub text : ℕ

abbrev pub located_told : (document : List ℕ) → Told → Located
located_told document t = record {
  number = t.number;
  document = document_of t.place;
  place = offset_of t.place;
  line = line_of document t.number t.place;
  column = column_of document t.number t.place;
  count = t.count;
  trail = t.trail;
  table = t.table;
  text = t.text;
}

abbrev pub resolved_told : J.Resolved → Located
resolved_told r = record {
  number = r.number;
  document = r.document;
  place = r.place;
  line = r.line;
  column = r.column;
  count = r.count;
  trail = length r.trail;
  table = length r.table;
  text = length r.text;
}

-- Resolve in 64 bits. Bits 0 to 5: the number. Refused: as `packed_refusal` has it. Else bits 6 to 14 the count, 15 to 30 the trail's
-- length, 31 to 46 the table's, 47 to 62 the text's. The others are 0.
unfoldable pub packed_resolution : Located → ℕ
unfolding packed_refusal
packed_resolution t =
    cond (eqb t.number 0) (t.count * 64 + t.trail * 32768 + t.table * 2147483648 + t.text * 140737488355328)
    (packed_refusal t.number t.document t.place t.line t.column)

-- each value has room in its bits, so that none spills; a refusal's number is not 0
abbrev pub HasRoom : List ℕ → Result Resolution Refusal → Type 0
HasRoom s (Ok v) = (v.count < 512) × (v.trail.0 < 65536) × (v.table.0 < 65536) × (v.text.0 < 65536)
HasRoom s (Err x) = (1 ≤ x.number) × RefusalFits s x.number x.place.0

pub record Packable (s : List ℕ) (r : Result Resolution Refusal) : Type 0 where
  pub room : HasRoom s r

-- ---- check

abbrev pub verdict_of : (document : List ℕ) → Result (Unit {0}) Refusal → J.Verdict
verdict_of document (Ok u) = J.yes
verdict_of document (Err x) = J.refused_at document x.number x.place.0

-- Check in 64 bits, as `packed_refusal` has it: all are 0 where the sheet is accepted.
unfoldable pub packed_verdict : J.Verdict → ℕ
unfolding packed_refusal
packed_verdict v = packed_refusal v.number v.document v.place v.line v.column

abbrev pub VerdictRoom : List ℕ → Result (Unit {0}) Refusal → Type 0
VerdictRoom s (Ok u) = Unit {0}
VerdictRoom s (Err x) = RefusalFits s x.number x.place.0

pub record PackableVerdict (s : List ℕ) (v : Result (Unit {0}) Refusal) : Type 0 where
  pub room : VerdictRoom s v
