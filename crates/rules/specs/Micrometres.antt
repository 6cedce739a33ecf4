-- Document 02, No. 3: "in a string a decimal JSON number text, optional whitespace, then `mm`, `um` or `in`, answered in whole micrometres
-- (1 in is 25,400). `2.6 mm` is 2,600; `0.1 in` is 2,540. Refused, in this order: malformed (exponents and all else), a bare number (kind 4
-- or 5), a minus sign, not whole micrometres (`0.0001 mm`), over 1,000,000. The rule is stated over whole numbers only."
use Rattle.std.specs.Prelude.{ℕ, ◌+◌, ◌-◌, ◌*◌, ◌/◌, ◌%◌, ◌^◌, List, [], ◌∷◌, ◌++◌, Bool, true, false, ◌&&◌, leb, eqb, length}
use Rattle.std.proofs.Math.Option.{Option, none, some}
use Rattle.std.proofs.Math.Seq.{slice}
use Rattle.rules.specs.Sizes.{max_micrometres}
use Rattle.rules.specs.Bytes.{Text, byte_at, skip}
use Rattle.rules.specs.Ascii as ascii
use Rattle.rules.specs.Refusals.{Refusal, nowhere, number_of}
use Rattle.rules.specs.Utf8.{ill_formed}
use Rattle.rules.specs.Characters.{next_place, character_at, is_space}
use Rattle.rules.specs.Numbers.{after_int, after_fraction}

-- ---- what is answered

-- number 0 and the micrometres, or a refusal's number: "at place 0, outputs zero"
pub record Measured : Type 0 where
  pub number : ℕ
  pub micrometres : ℕ

abbrev pub of_micrometres : ℕ → Measured
of_micrometres n = record { number = 0; micrometres = n }

unfoldable pub no_length : Refusal → Measured
no_length x = record { number = number_of x; micrometres = 0 }

-- ---- "a decimal JSON number text": a number of RFC 8259 without exponent, from the text's start

-- its digits before the dot and behind it, and the place after it
pub record Decimal : Type 0 where
  pub minus : Bool
  pub whole : Text
  pub fraction : Text
  pub end : ℕ

-- the place of the first digit
abbrev pub first_digit : Text → ℕ
first_digit s = elim (eqb (byte_at s 0) ascii.minus) [ true ↦ 1 | false ↦ 0 ]

-- The number whose digits before the dot end at a place. Without a dot and digits behind it the fraction is empty.
unfoldable pub decimal_to : Text → ℕ → Decimal
unfolding after_fraction
decimal_to s point =
    let end = after_fraction s point in
    record {
      minus = eqb (byte_at s 0) ascii.minus;
      whole = slice (first_digit s) point s;
      fraction = slice (point + 1) end s;
      end = end;
    }

unfoldable pub decimal_of : Text → Option Decimal
unfolding after_int decimal_to
decimal_of s = elim (after_int s (first_digit s)) [ none ↦ none | some point ↦ some (decimal_to s point) ]

-- the whole number that digits write
unfoldable pub digits_value : Text → ℕ
digits_value [] = 0
digits_value (b ∷ bs) = (b - ascii.zero) * 10 ^ length bs + digits_value bs

-- ---- "optional whitespace, then `mm`, `um` or `in`"

-- the place after the whitespace, newlines too, by the test with which documents are read
unfoldable pub after_space : List ℕ → ℕ → ℕ
unfolding skip next_place character_at
after_space s at = skip (λ p. is_space (character_at s p)) (next_place s) (length s) at

-- micrometres of each unit: "1 in is 25,400"
abbrev pub micrometre : ℕ
micrometre = 1

abbrev pub millimetre : ℕ
millimetre = 1000

abbrev pub inch : ℕ
inch = 25400

-- the unit of two letters
unfoldable pub unit_of : (first second : ℕ) → Option ℕ
unit_of first second =
    elim (eqb first ascii.m && eqb second ascii.m) [
      | true ↦ some millimetre
      | false ↦ elim (eqb first ascii.u && eqb second ascii.m) [
        | true ↦ some micrometre
        | false ↦ elim (eqb first ascii.i && eqb second ascii.n) [ true ↦ some inch | false ↦ none ]
      ]
    ]

-- the unit with which the text ends, from a place on
unfoldable pub unit_at : Text → ℕ → Option ℕ
unfolding unit_of
unit_at s at = elim (eqb (length s) (at + 2)) [ true ↦ unit_of (byte_at s at) (byte_at s (at + 1)) | false ↦ none ]

-- ---- the length

-- Digits times the unit, against ten to the number of digits behind the dot: "not whole micrometres" is 23, "over 1,000,000" is 24.
unfoldable pub in_micrometres : (unit : ℕ) (d : Decimal) → Measured
unfolding digits_value no_length
in_micrometres unit d =
    let product = digits_value (d.whole ++ d.fraction) * unit in
    let scale = 10 ^ length d.fraction in
    elim (eqb (product % scale) 0) [
      | false ↦ no_length (nowhere 23)
      | true ↦ elim (leb (product / scale) max_micrometres) [
        | false ↦ no_length (nowhere 24)
        | true ↦ of_micrometres (product / scale)
      ]
    ]

-- "malformed (exponents and all else)" is 20, "a minus sign" is 22
unfoldable pub with_unit : (d : Decimal) (unit : Option ℕ) → Measured
unfolding in_micrometres no_length
with_unit d none = no_length (nowhere 20)
with_unit d (some unit) = elim d.minus [ true ↦ no_length (nowhere 22) | false ↦ in_micrometres unit d ]

-- "a bare number (kind 4 or 5)" is 21; only a string has a unit
unfoldable pub with_rest : (string : Bool) (s : Text) (d : Decimal) → Measured
unfolding no_length with_unit unit_at after_space
with_rest string s d =
    elim (eqb d.end (length s)) [
      | true ↦ no_length (nowhere 21)
      | false ↦ elim string [ true ↦ with_unit d (unit_at s (after_space s d.end)) | false ↦ no_length (nowhere 20) ]
    ]

-- the length that a number's or a string's text writes; a text that is no UTF-8 writes none
unfoldable pub length_of : (string : Bool) (s : Text) → Measured
unfolding ill_formed decimal_of no_length with_rest
length_of string s =
    elim (ill_formed s) [
      | some place ↦ no_length (nowhere 20)
      | none ↦ elim (decimal_of s) [ none ↦ no_length (nowhere 20) | some d ↦ with_rest string s d ]
    ]
