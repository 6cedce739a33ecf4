-- Document 01, "The sheet": "Two tables mean the same if they agree record by record, in order, in all but text offsets, and in the bytes of
-- each text."
use Rattle.std.specs.Prelude.{◌≡◌, ℕ, zero, suc, List, [], ◌∷◌, true, false, ◌&&◌, ◌||◌, leb, eqb, length, drop}
use Rattle.rules.specs.Bytes.{Text, byte_at, within}
use Rattle.rules.specs.Kinds as kinds
use Rattle.rules.specs.Sheet.{pair_at}
use Rattle.rules.specs.LookUp.{text_at}

-- a record, in all but its text offset
pub data Record : Type 0 where
  -- "1 null, 2 false, 3 true: none"
  plain : ℕ → Record
  -- "6 array, 7 object: member count 2", "9 entry", "10 undefined entry: blend number 2"
  with_number : ℕ → ℕ → Record
  -- "4 number, 5 string, 8 key": its length, and the bytes of its text as far as the text part goes
  worded : ℕ → ℕ → Text → Record
  -- all bytes from a place on where no whole record stands
  unread : List ℕ → Record

-- "Each record is one byte of kind, then a body whose length the kind fixes": the first of some bytes
unfoldable pub first_record : (text s : List ℕ) → Record
unfolding pair_at text_at
first_record text s =
    let kind = byte_at s 0 in
    elim (within kinds.null kinds.true kind) [
      | true ↦ plain kind
      | false ↦ elim ((within kinds.array kinds.object kind || within kinds.entry kinds.undefined_entry kind) && leb 3 (length s)) [
        | true ↦ with_number kind (pair_at s 1)
        | false ↦ elim ((within kinds.number kinds.string kind || eqb kind kinds.key) && leb 5 (length s)) [
          | true ↦ worded kind (pair_at s 3) (text_at s text 0)
          | false ↦ unread s
        ]
      ]
    ]

-- how many bytes it takes
unfoldable pub bytes_of : Record → ℕ
bytes_of (plain kind) = 1
bytes_of (with_number kind n) = 3
bytes_of (worded kind n t) = 5
bytes_of (unread s) = length s

-- one record after the other; at most so many
unfoldable pub records_in : (fuel : ℕ) (text s : List ℕ) → List Record
unfolding first_record bytes_of
records_in zero text s = []
records_in (suc n) text [] = []
records_in (suc n) text (kind ∷ s) =
    let r = first_record text (kind ∷ s) in
    r ∷ records_in n text (drop (bytes_of r) (kind ∷ s))

-- a table's records; each takes at least a byte
abbrev pub records_of : (text table : List ℕ) → List Record
records_of text table = records_in (length table) text table

abbrev pub MeanTheSame : (table text table' text' : List ℕ) → Type 0
MeanTheSame table text table' text' = records_of text table ≡ records_of text' table'
