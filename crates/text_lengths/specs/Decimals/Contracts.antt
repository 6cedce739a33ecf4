-- What the functions on a length's form promise, by the rules' definitions.
use Rattle.std.specs.Prelude.{◌≡◌, ℕ, ◌+◌, ◌≤◌, Bool, List, length, Option as Maybe, Some, None}
use Rattle.std.proofs.Math.Option.{Option, none, some}
use Rattle.std.proofs.Math.Seq.{slice}
use Rattle.rules.specs.Numbers.{after_int, after_fraction}
use Rattle.rules.specs.Micrometres as rules
use Rattle.text_lengths.specs.declared.decimals.Decimal.{Decimal}

-- the rules' number for the code's places
abbrev pub decimal_in : List ℕ → Decimal → rules.Decimal
decimal_in s d = record {
  minus = d.minus;
  whole = slice d.first.0 d.point.0 s;
  fraction = slice (d.point.0 + 1) d.end.0 s;
  end = d.end.0;
}

abbrev pub start_in : List ℕ → Maybe Decimal → Option rules.Decimal
start_in s None = none
start_in s (Some d) = some (decimal_in s d)

-- the places stand in their order, inside the text
abbrev pub Placed : ℕ → Maybe Decimal → Type 0
Placed len None = Unit {0}
Placed len (Some d) = (d.point.0 ≤ d.end.0) × (d.end.0 ≤ len)

-- the number with this sign, whose first digit is to stand at a place
unfoldable pub decimal_from : List ℕ → Bool → ℕ → Option rules.Decimal
unfolding after_int after_fraction
decimal_from s minus first =
    elim (after_int s first) [
      | none ↦ none
      | some point ↦
          let end = after_fraction s point in
          some (record { minus = minus; whole = slice first point s; fraction = slice (point + 1) end s; end = end })
    ]

pub record DecimalFrom (s : List ℕ) (minus : Bool) (first : ℕ) (r : Maybe Decimal) : Type 0 where
  pub is : start_in s r ≡ decimal_from s minus first
  pub placed : Placed (length s) r

pub record DecimalIs (s : List ℕ) (r : Maybe Decimal) : Type 0 where
  pub is : start_in s r ≡ rules.decimal_of s
  pub placed : Placed (length s) r

abbrev pub unit_as : Option ℕ → Maybe ℕ
unit_as none = None
unit_as (some n) = Some n

-- an inch is the longest unit
abbrev pub Short : Maybe ℕ → Type 0
Short None = Unit {0}
Short (Some n) = n ≤ rules.inch

pub record UnitIs (o : Option ℕ) (r : Maybe ℕ) : Type 0 where
  pub is : r ≡ unit_as o
  pub short : Short r
