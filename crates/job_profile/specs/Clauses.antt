-- What the functions of the job promise, by its definitions.
use Rattle.std.specs.Prelude.{Result, Ok, Err, ◌≡◌, ℕ, ◌≤◌, List, [], length}
use Rattle.std.proofs.Math.Option.{Option, none, some}
use Rattle.rules.specs.Sizes.{max_nesting, max_room}
use Rattle.rules.specs.Bytes.{Text}
use Rattle.theory.specs.LookUps.{WholeAt}
use Rattle.rules_profile.specs.Profile as profile
use Rattle.text_chars.specs.declared.Refusal.{Refusal}
use Rattle.job_profile.specs.declared.Limits.{Limits}

-- what a table's profile comes to: its limits, or a refusal
abbrev pub ProfileRead : Type 0
ProfileRead = Result Limits Refusal

abbrev pub bounds : ℕ → ℕ → ℕ → Limits
bounds edition minimum maximum = record { edition = edition; minimum = minimum; maximum = maximum }

-- a place where a whole value stands
pub record ValueAt (table text : List ℕ) (at : ℕ) : Type 0 where
  pub whole : WholeAt table text max_nesting at

-- a number's or a string's
abbrev pub TextKind : ℕ → Type 0
TextKind kind = (4 ≤ kind) × (kind ≤ 5)

-- a text, or an empty one where there is none
abbrev pub text_or : Option Text → Text
text_or none = []
text_or (some t) = t

pub record TextIs (o : Option Text) (r : Text) : Type 0 where
  pub is : r ≡ text_or o
  pub short : length r ≤ max_room

-- the paper's number, edition and limits for each case
abbrev pub profile_of : ProfileRead → profile.Profile
profile_of (Ok v) = record { number = 0; edition = v.edition; minimum = v.minimum; maximum = v.maximum }
profile_of (Err e) = record { number = e.number; edition = 0; minimum = 0; maximum = 0 }

-- a refusal has no place
abbrev pub Placed : ProfileRead → Type 0
Placed (Ok v) = Unit {0}
Placed (Err e) = e.place.0 ≡ 0

pub record ProfileIs (p : profile.Profile) (r : ProfileRead) : Type 0 where
  pub is : profile_of r ≡ p
  pub placed : Placed r
