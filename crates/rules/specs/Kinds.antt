-- Document 01, "The sheet": the kinds of records. The names are those of the code's crate `codes`.
use Rattle.std.specs.Prelude.{ℕ}

abbrev pub null : ℕ
null = 1

abbrev pub false : ℕ
false = 2

abbrev pub true : ℕ
true = 3

abbrev pub number : ℕ
number = 4

abbrev pub string : ℕ
string = 5

abbrev pub array : ℕ
array = 6

abbrev pub object : ℕ
object = 7

abbrev pub key : ℕ
key = 8

abbrev pub entry : ℕ
entry = 9

abbrev pub undefined_entry : ℕ
undefined_entry = 10
