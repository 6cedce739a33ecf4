-- What the functions on a length's digits promise, by the rules' definitions.
use Rattle.std.specs.Prelude.{◌≡◌, ℕ, ◌+◌, ◌-◌, ◌*◌, ◌/◌, ◌%◌, ◌≤◌, min, true, false, List, [], ◌∷◌, eqb, length, Option as Maybe, Some, None, Result, Ok, Err}
use Rattle.std.proofs.Math.Option.{Option, none, some}
use Rattle.std.proofs.Math.Seq.{slice}
use Rattle.rules.specs.Bytes.{Text}
use Rattle.rules.specs.Sizes.{max_document}
use Rattle.rules.specs.Micrometres as rules
use Rattle.rules.specs.Micrometres.{inch, digits_value}
use Rattle.text_chars.specs.declared.Refusal.{Refusal}

-- digits up to a place of a text, and a unit
abbrev pub DigitsTo : List ℕ → ℕ → ℕ → Type 0
DigitsTo s to unit = (length s ≤ max_document) × (to ≤ length s) × (unit ≤ inch)

-- one over the limit: what stands for every length that is too long
abbrev pub too_many : ℕ
too_many = 1000001

pub record WholeIs (s : List ℕ) (from to unit r : ℕ) : Type 0 where
  pub is : r ≡ min too_many (digits_value (slice from to s) * unit)

-- A tenth, if it is whole.
unfoldable pub tenth : ℕ → Option ℕ
tenth n = elim (eqb (n % 10) 0) [ true ↦ some (n / 10) | false ↦ none ]

-- The micrometres of digits behind the dot, if they are whole: a tenth of those of the first digit with all behind it.
unfoldable pub fraction_c : (unit : ℕ) → Text → Option ℕ
unfolding tenth
fraction_c unit [] = some 0
fraction_c unit (b ∷ bs) = elim (fraction_c unit bs) [ none ↦ none | some rest ↦ tenth ((b - 48) * unit + rest) ]

abbrev pub fraction_as : Option ℕ → Maybe ℕ
fraction_as none = None
fraction_as (some n) = Some n

-- so small that no sum wraps
abbrev pub max_fraction : ℕ
max_fraction = 1000000

abbrev pub Small : Maybe ℕ → Type 0
Small None = Unit {0}
Small (Some n) = n ≤ max_fraction

pub record FractionIs (s : List ℕ) (from to unit : ℕ) (r : Maybe ℕ) : Type 0 where
  pub is : r ≡ fraction_as (fraction_c unit (slice from to s))
  pub small : Small r

-- the paper's number and micrometres for each case
abbrev pub measured_of : Result ℕ Refusal → rules.Measured
measured_of (Ok n) = record { number = 0; micrometres = n }
measured_of (Err e) = record { number = e.number; micrometres = 0 }

-- a refusal's number is not 0, which is none; it has no place
abbrev pub Numbered : Result ℕ Refusal → Type 0
Numbered (Ok n) = Unit {0}
Numbered (Err e) = (1 ≤ e.number) × (e.place.0 ≡ 0)

pub record MeasuredIs (m : rules.Measured) (r : Result ℕ Refusal) : Type 0 where
  pub is : measured_of r ≡ m
  pub numbered : Numbered r
