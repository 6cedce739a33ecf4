-- What the functions on numbers promise, by the rules' definitions.
use Rattle.std.specs.Prelude.{◌≡◌, ℕ, ◌≤◌, ◌<◌, Bool, ◌||◌, List, eqb, length}
use Rattle.std.proofs.Math.Option.{Option, none, some}
use Rattle.rules.specs.Numbers.{after_int, after_fraction, after_exponent}
use Rattle.std.specs.Prelude.{Option as Maybe, Some, None}
use Rattle.text_chars.specs.declared.Cursor.{Cursor}

abbrev pub is_sign : ℕ → Bool
is_sign c = eqb c 43 || eqb c 45

abbrev pub is_exponent : ℕ → Bool
is_exponent c = eqb c 69 || eqb c 101

-- the place after a number but its minus
unfoldable pub after_unsigned : List ℕ → ℕ → Option ℕ
unfolding after_int after_fraction after_exponent
after_unsigned s at = elim (after_int s at) [ none ↦ none | some p ↦ some (after_exponent s (after_fraction s p)) ]

abbrev pub end_of : Maybe Cursor → Option ℕ
end_of None = none
end_of (Some c) = some c.at.0

-- a number is not empty, and not past the end
abbrev pub NumberMoved : ℕ → ℕ → Maybe Cursor → Type 0
NumberMoved len at None = Unit {0}
NumberMoved len at (Some c) = (at < c.at.0) × (c.at.0 ≤ len)

pub record NumberIs (s : List ℕ) (at : ℕ) (place : Option ℕ) (r : Maybe Cursor) : Type 0 where
  pub is : end_of r ≡ place
  pub moved : NumberMoved (length s) at r
