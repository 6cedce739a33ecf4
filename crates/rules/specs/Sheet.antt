-- Document 01, "The sheet": "Each record is one byte of kind, then a body whose length the kind fixes; numbers high byte first." "The text
-- part holds the texts of the trail's records, then the table's, in order, nothing shared, each starting where the one before ends."
use Rattle.std.specs.Prelude.{ℕ, ◌+◌, ◌*◌, ◌/◌, ◌%◌, List, [], ◌∷◌, ◌++◌, Bool, true, false, ◌&&◌, leb, length}
use Rattle.std.proofs.Math.Option.{none, some}
use Rattle.answers.specs.Ask.{Trail}
use Rattle.rules.specs.Bytes.{Text, byte_at}
use Rattle.rules.specs.Kinds as kinds
use Rattle.rules.specs.Tree.{Scalar, null, boolean, number, string}
use Rattle.rules.specs.Values.{Value, scalar, array_of, object_of, Values, no-values, val, Members, no-members, member, Answer, count_values, count_members, own_text, record_size, text_size}

-- a number in two bytes
unfoldable pub two : ℕ → List ℕ
two n = n / 256 % 256 ∷ n % 256 ∷ []

-- two bytes as a number
unfoldable pub pair_at : List ℕ → ℕ → ℕ
pair_at s at = byte_at s at * 256 + byte_at s (at + 1)

-- "4 number, 5 string, 8 key: text offset 2, length 2"
unfoldable pub text_record : (kind offset : ℕ) (t : Text) → List ℕ
unfolding two
text_record kind offset t = kind ∷ two offset ++ two (length t)

-- "1 null, 2 false, 3 true: none"
unfoldable pub scalar_record : ℕ → Scalar → List ℕ
unfolding text_record
scalar_record offset null = kinds.null ∷ []
scalar_record offset (boolean false) = kinds.false ∷ []
scalar_record offset (boolean true) = kinds.true ∷ []
scalar_record offset (number t) = text_record kinds.number offset t
scalar_record offset (string t) = text_record kinds.string offset t

-- a value's records, its texts laid from an offset on: "6 array, 7 object: member count 2, members following; an object's are key
-- then value"
unfoldable mutual
  unfolding two text_record scalar_record text_size count_values count_members

  pub records : ℕ → Value → List ℕ
  records offset (scalar x) = scalar_record offset x
  records offset (array_of vs) = kinds.array ∷ two (count_values vs) ++ value_records offset vs
  records offset (object_of ms) = kinds.object ∷ two (count_members ms) ++ member_records offset ms

  pub value_records : ℕ → Values → List ℕ
  value_records offset no-values = []
  value_records offset (val v vs) = records offset v ++ value_records (offset + text_size v) vs

  pub member_records : ℕ → Members → List ℕ
  member_records offset no-members = []
  member_records offset (member k v ms) =
      text_record kinds.key offset k ++ records (offset + length k) v ++ member_records (offset + length k + text_size v) ms

-- its texts, in order
unfoldable mutual
  unfolding own_text

  pub texts : Value → Text
  texts (scalar x) = own_text x
  texts (array_of vs) = value_texts vs
  texts (object_of ms) = member_texts ms

  pub value_texts : Values → Text
  value_texts no-values = []
  value_texts (val v vs) = texts v ++ value_texts vs

  pub member_texts : Members → Text
  member_texts no-members = []
  member_texts (member k v ms) = k ++ texts v ++ member_texts ms

-- ---- the trail: entries of a number and an answer, in the order in which they were answered; here the newest first

-- "9 entry: blend number 2, answer following", "10 undefined entry: blend number 2"
unfoldable pub entry_record : (offset b : ℕ) (a : Answer) → List ℕ
unfolding two records
entry_record offset b none = kinds.undefined_entry ∷ two b
entry_record offset b (some v) = kinds.entry ∷ two b ++ records offset v

unfoldable pub answer_texts : Answer → Text
unfolding texts
answer_texts none = []
answer_texts (some v) = texts v

-- an entry's size, and its texts'
unfoldable pub entry_size : Answer → ℕ
unfolding record_size
entry_size none = 3
entry_size (some v) = 3 + record_size v

unfoldable pub answer_text_size : Answer → ℕ
unfolding text_size
answer_text_size none = 0
answer_text_size (some v) = text_size v

unfoldable pub trail_size : Trail Answer → ℕ
unfolding entry_size
trail_size [] = 0
trail_size (e ∷ S) = entry_size e.1 + trail_size S

unfoldable pub trail_text_size : Trail Answer → ℕ
unfolding answer_text_size
trail_text_size [] = 0
trail_text_size (e ∷ S) = answer_text_size e.1 + trail_text_size S

unfoldable pub trail_records : Trail Answer → List ℕ
unfolding entry_record trail_text_size
trail_records [] = []
trail_records (e ∷ S) = trail_records S ++ entry_record (trail_text_size S) e.0 e.1

unfoldable pub trail_texts : Trail Answer → Text
unfolding answer_texts
trail_texts [] = []
trail_texts (e ∷ S) = trail_texts S ++ answer_texts e.1

-- ---- rooms

-- "trail entry, table or text does not fit its room" otherwise
unfoldable pub trail_fits : (trail_room text_room : ℕ) (S : Trail Answer) → Bool
unfolding trail_size trail_text_size
trail_fits trail_room text_room S = leb (trail_size S) trail_room && leb (trail_text_size S) text_room

unfoldable pub table_fits : (table_room text_room : ℕ) (S : Trail Answer) (v : Value) → Bool
unfolding trail_text_size record_size text_size
table_fits table_room text_room S v = leb (record_size v) table_room && leb (trail_text_size S + text_size v) text_room
