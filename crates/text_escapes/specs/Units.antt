-- What the functions on code units promise, by the rules' definitions.
use Rattle.std.specs.Prelude.{◌≡◌, ℕ, ◌+◌, ◌≤◌, ◌<◌, List, length, Some, None, Result, Ok, Err}
use Rattle.std.specs.Prelude.{Option as Maybe}
use Rattle.std.proofs.Math.Option.{Option, none, some}
use Rattle.rules.specs.Characters.{no_character}
use Rattle.rules.specs.Refusals.{placed, Scan, ok, refused}
use Rattle.rules.specs.Strings.{hex_digit, hex_from, paired}
use Rattle.text_chars.specs.declared.Cursor.{Cursor}
use Rattle.text_chars.specs.declared.Refusal.{Refusal}
use Rattle.text_escapes.specs.declared.units.Unit.{Unit as CodeUnit}

-- a value as the code has it, if there is one
abbrev pub maybe : Option ℕ → Maybe ℕ
maybe none = None
maybe (some d) = Some d

abbrev pub HexSmall : Maybe ℕ → Type 0
HexSmall None = Unit {0}
HexSmall (Some d) = d < 16

pub record HexIs (ch : ℕ) (r : Maybe ℕ) : Type 0 where
  pub is : r ≡ maybe (hex_digit ch)
  pub small : HexSmall r

-- a code unit by its value and the cursor past it
abbrev pub code_unit : ℕ → Cursor → CodeUnit
code_unit unit next = record { unit = unit; next = next }

-- what the rules give where a function answers
abbrev pub unit_scan : Result CodeUnit Refusal → Scan ℕ
unit_scan (Ok u) = ok u.unit u.next.at.0
unit_scan (Err x) = refused (placed x.number x.place.0)

-- four digits further, inside the text
abbrev pub UnitFar : ℕ → ℕ → Result CodeUnit Refusal → Type 0
UnitFar len at (Ok u) = (u.unit < 65536) × (u.next.at.0 ≡ at + 4) × (u.next.at.0 ≤ len)
UnitFar len at (Err x) = Unit {0}

pub record UnitIs (s : List ℕ) (first at : ℕ) (r : Result CodeUnit Refusal) : Type 0 where
  pub is : hex_from 4 s first 0 at ≡ unit_scan r
  pub far : UnitFar (length s) at r

-- the first and the second half of a surrogate pair
abbrev pub High : ℕ → Type 0
High unit = (55296 ≤ unit) × (unit ≤ 56319)

abbrev pub Low : ℕ → Type 0
Low unit = (56320 ≤ unit) × (unit ≤ 57343)

pub record PairIs (high low r : ℕ) : Type 0 where
  pub is : r ≡ paired high low
  pub small : r < no_character
