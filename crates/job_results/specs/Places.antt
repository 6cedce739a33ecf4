-- Where a refusal is, by its number and its place in one number; and its 64 bits.
use Rattle.std.specs.Prelude.{◌≡◌, true, List, ℕ, ◌+◌, ◌*◌, ◌≤◌, ◌<◌, length}
use Rattle.rules.specs.Sizes.{max_document}
use Rattle.rules.specs.Refusals.{document_of, offset_of}
use Rattle.rules.specs.Positions.{has_place, line_of, column_of}
use Rattle.job_results.specs.declared.Place.{Place}

-- a document in which something is refused is not over its bytes
pub record PlaceAsked (s : List ℕ) (number : ℕ) : Type 0 where
  pub short : has_place number ≡ true → length s ≤ max_document

pub record PlaceIs (s : List ℕ) (number place : ℕ) (r : Place) : Type 0 where
  pub document : r.document ≡ document_of place
  pub offset : r.offset.0 ≡ offset_of place
  pub line : r.line ≡ line_of s number place
  pub column : r.column ≡ column_of s number place

-- Bits 0 to 5: the number. Bits 6 to 21: the offset. Bits 22 to 25: the document. Bits 26 to 41: the line. Bits 42 to 57: the column.
unfoldable pub packed_refusal : (number document offset line column : ℕ) → ℕ
packed_refusal number document offset line column =
    number + offset * 64 + document * 4194304 + line * 67108864 + column * 4398046511104

-- number and document have room in their bits; then so have the offset, the line and the column
pub record RefusalFits (s : List ℕ) (number place : ℕ) : Type 0 where
  pub number_fits : number < 64
  pub document-fits : place < 1048576
  pub asked : PlaceAsked s number

pub record PackedRefusalIs (s : List ℕ) (number place r : ℕ) : Type 0 where
  pub is : r ≡ packed_refusal number (document_of place) (offset_of place) (line_of s number place) (column_of s number place)
