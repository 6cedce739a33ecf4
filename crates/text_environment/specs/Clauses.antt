-- What the environment's reader promises, by the rules' entries.
use Rattle.std.specs.Prelude.{◌≡◌, ℕ, ◌+◌, ◌≤◌, ◌<◌, Bool, true, false, List, [], length, drop, Option as Maybe, Some, None}
use Rattle.std.proofs.Math.Option.{Option, none, some}
use Rattle.std.proofs.Math.Seq.{slice}
use Rattle.rules.specs.Bytes.{Text}
use Rattle.rules.specs.Environment.{Variable, with_variable, name_from, text_from, at_most}
use Rattle.text_chars.specs.declared.EnvAt.{EnvAt}
use Rattle.text_environment.specs.declared.Parts.{Parts}

abbrev pub is_some : Option (List Variable) → Bool
is_some none = false
is_some (some es) = true

abbrev pub env : ℕ → EnvAt
env at = record { 0 = at }

-- the entries from a place on, so many at most
abbrev pub entries : ℕ → List ℕ → ℕ → Option (List Variable)
entries n s at = at_most n (name_from [] (drop at s))

-- where a name ends: it is not empty, and a text begins behind its `=`
abbrev pub NameEnd : List ℕ → ℕ → Maybe EnvAt → Type 0
NameEnd s at (Some e) = (at < e.0) × (e.0 < length s) × (name_from [] (drop at s) ≡ text_from (slice at e.0 s) [] (drop (e.0 + 1) s))
NameEnd s at None = name_from [] (drop at s) ≡ none

pub record NameEnds (s : List ℕ) (at : ℕ) (r : Maybe EnvAt) : Type 0 where
  pub is : NameEnd s at r

-- the entry of a name and of the bytes from one place up to another
abbrev pub entry : List ℕ → Text → ℕ → ℕ → Variable
entry s n from to = record { name = n; text = slice from to s }

-- where a text ends: behind its zero byte an entry may begin
abbrev pub TextEnd : List ℕ → ℕ → Maybe EnvAt → Type 0
TextEnd s at (Some z) =
    (at ≤ z.0) × (z.0 < length s) × ((n : Text) → text_from n [] (drop at s) ≡ with_variable (entry s n at z.0) (name_from [] (drop (z.0 + 1) s)))
TextEnd s at None = (n : Text) → text_from n [] (drop at s) ≡ none

pub record TextEnds (s : List ℕ) (at : ℕ) (r : Maybe EnvAt) : Type 0 where
  pub is : TextEnd s at r

abbrev pub EntryAt : List ℕ → ℕ → Maybe Parts → Type 0
EntryAt s at (Some p) =
    (at < p.equals.0) × (p.equals.0 < p.zero.0) × (p.zero.0 < length s)
    × (name_from [] (drop at s) ≡ with_variable (entry s (slice at p.equals.0 s) (p.equals.0 + 1) p.zero.0) (name_from [] (drop (p.zero.0 + 1) s)))
EntryAt s at None = name_from [] (drop at s) ≡ none

pub record EntryIs (s : List ℕ) (at : ℕ) (r : Maybe Parts) : Type 0 where
  pub is : EntryAt s at r
