-- What the functions on the texts of a profile's settings promise, by its definitions.
use Rattle.std.specs.Prelude.{◌≡◌, ℕ, ◌≤◌, Option as Maybe, Some, None}
use Rattle.std.proofs.Math.Option.{Option, none, some}
use Rattle.rules_profile.specs.Profile as profile
use Rattle.text_profiles.specs.declared.Edition.{Edition}

-- the definitions' edition for each case
abbrev pub edition_as : Maybe Edition → profile.Edition
edition_as (Some Edition.First) = profile.first
edition_as (Some Edition.Second) = profile.second
edition_as None = profile.unnamed

abbrev pub length_as : Maybe ℕ → Option ℕ
length_as (Some n) = some n
length_as None = none

-- the longest of all: 100,000 thousandths of an inch
abbrev pub max_length : ℕ
max_length = 25400000

abbrev pub AtMost : ℕ → Maybe ℕ → Type 0
AtMost most (Some n) = n ≤ most
AtMost most None = Unit {0}

pub record LengthIs (o : Option ℕ) (most : ℕ) (r : Maybe ℕ) : Type 0 where
  pub is : length_as r ≡ o
  pub at_most : AtMost most r
