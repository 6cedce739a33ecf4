-- JSON numbers (RFC 8259): "A digit or `-` starts the longest JSON number".
use Rattle.std.specs.Prelude.{ℕ, ◌+◌, List, Bool, true, false, ◌||◌, eqb, length}
use Rattle.std.proofs.Math.Option.{Option, none, some}
use Rattle.rules.specs.Bytes.{byte_at, within, skip}
use Rattle.rules.specs.Ascii as ascii

abbrev pub is_digit : ℕ → Bool
is_digit b = within ascii.zero ascii.nine b

-- the place after the digits
unfoldable pub after_digits : List ℕ → ℕ → ℕ
unfolding skip
after_digits s at = skip (λ p. is_digit (byte_at s p)) (λ p. p + 1) (length s) at

-- int: a zero alone, or digits that start with none
unfoldable pub after_int : List ℕ → ℕ → Option ℕ
unfolding after_digits
after_int s at =
    elim (eqb (byte_at s at) ascii.zero) [
      | true ↦ some (at + 1)
      | false ↦ elim (is_digit (byte_at s at)) [ true ↦ some (after_digits s (at + 1)) | false ↦ none ]
    ]

-- frac, if there is one: a dot and at least one digit
unfoldable pub after_fraction : List ℕ → ℕ → ℕ
unfolding after_digits
after_fraction s at =
    elim (eqb (byte_at s at) ascii.dot) [
      | true ↦ elim (is_digit (byte_at s (at + 1))) [ true ↦ after_digits s (at + 1) | false ↦ at ]
      | false ↦ at
    ]

-- exp, if there is one: e or E, a sign or none, at least one digit
unfoldable pub after_sign : List ℕ → ℕ → ℕ
after_sign s at = elim (eqb (byte_at s at) ascii.plus || eqb (byte_at s at) ascii.minus) [ true ↦ at + 1 | false ↦ at ]

unfoldable pub after_exponent : List ℕ → ℕ → ℕ
unfolding after_digits after_sign
after_exponent s at =
    elim (eqb (byte_at s at) ascii.capital_e || eqb (byte_at s at) ascii.e) [
      | true ↦ let digits = after_sign s (at + 1) in elim (is_digit (byte_at s digits)) [ true ↦ after_digits s digits | false ↦ at ]
      | false ↦ at
    ]

-- the place after the longest JSON number at a place, or nothing where none begins
unfoldable pub after_number : List ℕ → ℕ → Option ℕ
unfolding after_int after_fraction after_exponent
after_number s at =
    let start : ℕ = elim (eqb (byte_at s at) ascii.minus) [ true ↦ at + 1 | false ↦ at ] in
    elim (after_int s start) [ none ↦ none | some p ↦ some (after_exponent s (after_fraction s p)) ]
