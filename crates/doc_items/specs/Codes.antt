-- The numbers by which an item of a document tells what it is, and how the path of a substitution is written.
use Rattle.std.specs.Prelude.{ℕ, ◌+◌, ◌*◌, ◌/◌, ◌%◌, List, [], ◌∷◌, ◌++◌, Bool, true, false, length}
use Rattle.rules.specs.Bytes.{Text}
use Rattle.rules.specs.Tree.{Scalar, null, boolean, number, string}

-- ---- kinds of items

-- a value's kind is that of its record
abbrev pub null_item : ℕ
null_item = 1

abbrev pub false_item : ℕ
false_item = 2

abbrev pub true_item : ℕ
true_item = 3

abbrev pub number_item : ℕ
number_item = 4

abbrev pub string_item : ℕ
string_item = 5

abbrev pub array_item : ℕ
array_item = 6

abbrev pub object_item : ℕ
object_item = 7

abbrev pub unresolved_item : ℕ
unresolved_item = 8

-- a substitution, which stands among the pieces of a value: `${..}`, and `${?..}`
abbrev pub required_item : ℕ
required_item = 9

abbrev pub optional_item : ℕ
optional_item = 10

-- what an item is added to its kind: nothing for a member, and for a piece so much that none is taken for a member
abbrev pub as_member : ℕ
as_member = 0

abbrev pub as_piece : ℕ
as_piece = 16

abbrev pub code_of : Scalar → ℕ
code_of null = null_item
code_of (boolean false) = false_item
code_of (boolean true) = true_item
code_of (number t) = number_item
code_of (string t) = string_item

abbrev pub reference_code : (optional : Bool) → ℕ
reference_code false = required_item
reference_code true = optional_item

-- ---- the columns of an item, where g gives the table's numbers

abbrev pub width : ℕ
width = 8

abbrev pub kind_at : (g : ℕ → ℕ) (item : ℕ) → ℕ
kind_at g item = g (width * item)

abbrev pub size_at : (g : ℕ → ℕ) (item : ℕ) → ℕ
size_at g item = g (width * item + 1)

abbrev pub key_at : (g : ℕ → ℕ) (item : ℕ) → ℕ
key_at g item = g (width * item + 2)

abbrev pub keylen_at : (g : ℕ → ℕ) (item : ℕ) → ℕ
keylen_at g item = g (width * item + 3)

abbrev pub text_at : (g : ℕ → ℕ) (item : ℕ) → ℕ
text_at g item = g (width * item + 4)

abbrev pub textlen_at : (g : ℕ → ℕ) (item : ℕ) → ℕ
textlen_at g item = g (width * item + 5)

abbrev pub place_at : (g : ℕ → ℕ) (item : ℕ) → ℕ
place_at g item = g (width * item + 6)

abbrev pub number_at : (g : ℕ → ℕ) (item : ℕ) → ℕ
number_at g item = g (width * item + 7)

-- the item behind it and those inside it
abbrev pub next_at : (g : ℕ → ℕ) (item : ℕ) → ℕ
next_at g item = item + size_at g item

-- ---- paths

-- The path of a substitution: the texts of its elements one behind the other, then the end of each, counted from the first text's start,
-- in two bytes, high byte first.
unfoldable pub path_texts : List Text → List ℕ
path_texts [] = []
path_texts (t ∷ ts) = t ++ path_texts ts

unfoldable pub path_ends : (from : ℕ) → List Text → List ℕ
path_ends from [] = []
path_ends from (t ∷ ts) = let e = from + length t in e / 256 ∷ e % 256 ∷ path_ends e ts

abbrev pub path_bytes : List Text → List ℕ
path_bytes ts = path_texts ts ++ path_ends 0 ts
