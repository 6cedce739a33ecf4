-- Document 02, No. 11: "The gauge profile, two editions." A table and its text part in; an edition and both limits, or a refusal, out.
use Rattle.std.specs.Prelude.{ℕ, ◌*◌, List, [], ◌∷◌, true, false, ◌&&◌, leb, ltb, eqb, length}
use Rattle.std.proofs.Math.Option.{Option, none, some}
use Rattle.rules.specs.Sizes.{max_room}
use Rattle.rules.specs.Bytes.{Text, byte_at, same}
use Rattle.rules.specs.Ascii as ascii
use Rattle.rules.specs.Kinds as kinds
use Rattle.rules.specs.Numbers.{after_int}
use Rattle.rules.specs.Micrometres.{digits_value, length_of}
use Rattle.rules.specs.LookUp.{is_whole, text_at, value_named}

-- Which number is given where, all at place 0: 1 and 15 as in look-up (profile_by), then "New refusals of both editions":
-- 39 `profile` missing or other: by_edition
-- 40 `unit`: first_edition, second_edition
-- 41 `plate.min`, 42 `plate.max`, 43 min above max: limits_of
abbrev pub profile_numbers : List ℕ
profile_numbers = 1 ∷ 15 ∷ 39 ∷ 40 ∷ 41 ∷ 42 ∷ 43 ∷ []

-- ---- what is answered

-- number 0, the edition, and both limits "in ten-thousandths of a millimetre"; or a refusal's number, and all else 0
pub record Profile : Type 0 where
  pub number : ℕ
  pub edition : ℕ
  pub minimum : ℕ
  pub maximum : ℕ

unfoldable pub no_profile : ℕ → Profile
no_profile number = record { number = number; edition = 0; minimum = 0; maximum = 0 }

-- ---- the settings that are read: their names and texts, as bytes

abbrev pub profile : Text
profile = 112 ∷ 114 ∷ 111 ∷ 102 ∷ 105 ∷ 108 ∷ 101 ∷ []

abbrev pub unit : Text
unit = 117 ∷ 110 ∷ 105 ∷ 116 ∷ []

abbrev pub plate : Text
plate = 112 ∷ 108 ∷ 97 ∷ 116 ∷ 101 ∷ []

abbrev pub min : Text
min = 109 ∷ 105 ∷ 110 ∷ []

abbrev pub max : Text
max = 109 ∷ 97 ∷ 120 ∷ []

abbrev pub millimetres : Text
millimetres = ascii.m ∷ ascii.m ∷ []

abbrev pub inches : Text
inches = ascii.i ∷ ascii.n ∷ []

-- the text of a value, if there is one of that kind
unfoldable pub text_of_kind : (table text : List ℕ) (kind : ℕ) → Option ℕ → Option Text
unfolding text_at
text_of_kind table text kind none = none
text_of_kind table text kind (some at) = elim (eqb (byte_at table at) kind) [ true ↦ some (text_at table text at) | false ↦ none ]

-- the text of the value that a path names, if it is of that kind
unfoldable pub text_named : (table text : List ℕ) (kind : ℕ) (path : List Text) → Option Text
unfolding value_named text_of_kind
text_named table text kind path = text_of_kind table text kind (value_named table text path 0)

-- ---- "The file names its edition in `profile`, the number `1` or `2` so written"

pub data Edition : Type 0 where
  first : Edition
  second : Edition
  unnamed : Edition

unfoldable pub edition_of : Option Text → Edition
unfolding same
edition_of none = unnamed
edition_of (some t) =
    elim (same t (49 ∷ [])) [ true ↦ first | false ↦ elim (same t (50 ∷ [])) [ true ↦ second | false ↦ unnamed ] ]

unfoldable pub edition_named : (table text : List ℕ) → Edition
unfolding edition_of text_named
edition_named table text = edition_of (text_named table text kinds.number (profile ∷ []))

-- ---- the lengths, in ten-thousandths of a millimetre

-- "hundredths of a millimetre or thousandths of an inch"; "one thousandth of an inch is 254"
abbrev pub hundredth : ℕ
hundredth = 100

abbrev pub thousandth : ℕ
thousandth = 254

-- a micrometre, in which No. 3 answers
abbrev pub micrometre : ℕ
micrometre = 10

-- "from 0 to 100,000"
abbrev pub max_bare : ℕ
max_bare = 100000

-- "`unit` present as the string `mm` or `in`": what one is that `plate.min` and `plate.max` count
unfoldable pub step_of : Option Text → Option ℕ
unfolding same
step_of none = none
step_of (some t) =
    elim (same t millimetres) [ true ↦ some hundredth | false ↦ elim (same t inches) [ true ↦ some thousandth | false ↦ none ] ]

-- "bare JSON numbers (kind 4) in digits only from 0 to 100,000"
unfoldable pub bare_length : (step : ℕ) → Option Text → Option ℕ
unfolding after_int digits_value
bare_length step none = none
bare_length step (some t) =
    elim (after_int t 0) [
      | none ↦ none
      | some end ↦ elim (eqb end (length t) && leb (digits_value t) max_bare) [ true ↦ some (digits_value t * step) | false ↦ none ]
    ]

-- "both lengths written as in No. 3", whatever its refusal
unfoldable pub written_length : Option Text → Option ℕ
unfolding length_of
written_length none = none
written_length (some t) =
    let m = length_of true t in elim (eqb m.number 0) [ true ↦ some (m.micrometres * micrometre) | false ↦ none ]

-- `plate.min`, `plate.max`, "min above max"
unfoldable pub limits_of : (edition : ℕ) (low high : Option ℕ) → Profile
unfolding no_profile
limits_of edition none high = no_profile 41
limits_of edition (some a) none = no_profile 42
limits_of edition (some a) (some b) =
    elim (ltb b a) [ true ↦ no_profile 43 | false ↦ record { number = 0; edition = edition; minimum = a; maximum = b } ]

-- ---- the editions

-- "Profile edition 1": `unit`, and bare lengths by it
unfoldable pub first_edition : (table text : List ℕ) → Profile
unfolding text_named step_of no_profile limits_of bare_length
first_edition table text =
    elim (step_of (text_named table text kinds.string (unit ∷ []))) [
      | none ↦ no_profile 40
      | some step ↦ limits_of 1 (bare_length step (text_named table text kinds.number (plate ∷ min ∷ [])))
          (bare_length step (text_named table text kinds.number (plate ∷ max ∷ [])))
    ]

-- "Edition 2: no `unit`; both lengths written as in No. 3."
unfoldable pub second_edition : (table text : List ℕ) → Profile
unfolding value_named no_profile limits_of written_length text_named
second_edition table text =
    elim (value_named table text (unit ∷ []) 0) [
      | some at ↦ no_profile 40
      | none ↦ limits_of 2 (written_length (text_named table text kinds.string (plate ∷ min ∷ [])))
          (written_length (text_named table text kinds.string (plate ∷ max ∷ [])))
    ]

-- "neither edition's rules are ever tried on the other's file": the edition that a file names chooses between the rules of the two
unfoldable pub by_edition : (one two : (table text : List ℕ) → Profile) (table text : List ℕ) → Edition → Profile
unfolding no_profile
by_edition one two table text first = one table text
by_edition one two table text second = two table text
by_edition one two table text unnamed = no_profile 39

-- 1 and 15 are look-up's
unfoldable pub profile_by : (one two : (table text : List ℕ) → Profile) (table text : List ℕ) → Profile
unfolding is_whole no_profile by_edition edition_named
profile_by one two table text =
    elim (leb (length table) max_room && leb (length text) max_room) [
      | false ↦ no_profile 1
      | true ↦ elim (is_whole table (length text)) [
        | false ↦ no_profile 15
        | true ↦ by_edition one two table text (edition_named table text)
      ]
    ]

unfoldable pub profile_job : (table text : List ℕ) → Profile
unfolding profile_by first_edition second_edition
profile_job table text = profile_by first_edition second_edition table text
