-- What the cursor promises, by the rules' characters.
use Rattle.std.specs.Prelude.{◌≡◌, ℕ, ◌≤◌, ◌<◌, Bool, true, false, List, ltb, length, Some, None}
use Rattle.std.specs.Prelude.{Option as Maybe}
use Rattle.std.proofs.Math.Option.{Option, none, some}
use Rattle.rules.specs.Bytes.{byte_at}
use Rattle.rules.specs.Characters.{width_of, character_at, next_place}
use Rattle.rules.specs.Positions.{line_at, column_at, line_behind, column_behind}
use Rattle.theory_text.specs.Positions.{Reached}
use Rattle.text_chars.specs.declared.DocAt.{DocAt}
use Rattle.text_chars.specs.declared.Cursor.{Cursor}
use Rattle.text_chars.specs.declared.Refusal.{Refusal}
use Rattle.text_chars.specs.declared.Step.{Step}

abbrev pub doc : ℕ → DocAt
doc at = record { 0 = at }

-- the cursor at a place
abbrev pub cur : ℕ → Cursor
cur at = record { at = doc at }

-- a refusal by its number and its place
abbrev pub refusal : ℕ → DocAt → Refusal
refusal number place = record { number = number; place = place }

-- the byte at a place, and that inside the text it is one
pub record ByteIs (s : List ℕ) (at r : ℕ) : Type 0 where
  pub is : r ≡ byte_at s at
  pub small : at < length s → r < 256

pub record WidthIs (lead r : ℕ) : Type 0 where
  pub is : r ≡ width_of lead
  pub low : 1 ≤ r
  pub high : r ≤ 4

-- the place after a character: forward, and not past the end
pub record PastIs (s : List ℕ) (at r : ℕ) : Type 0 where
  pub is : r ≡ next_place s at
  pub forward : at < r
  pub inside : r ≤ length s

abbrev pub pick_step : Bool → Maybe Step → Maybe Step → Maybe Step
pick_step true a b = a
pick_step false a b = b

-- the character at a place with the cursor past it, or the end
unfoldable pub step_at : List ℕ → ℕ → Maybe Step
unfolding character_at next_place
step_at s at = pick_step (ltb at (length s)) (Some (record { ch = character_at s at; next = cur (next_place s at) })) None

-- a step goes forward from a place inside the text, and not past its end
abbrev pub StepMoved : ℕ → ℕ → Maybe Step → Type 0
StepMoved len at (Some t) = (at < len) × (at < t.next.at.0) × (t.next.at.0 ≤ len)
StepMoved len at None = len ≤ at

-- line and column of the place past a character, by the character and those of its own place
pub record Counts (s : List ℕ) (at ch next : ℕ) : Type 0 where
  pub line : line_at s next ≡ line_behind ch (line_at s at)
  pub column : column_at s next ≡ column_behind ch (column_at s at)
  pub reached : Reached s next

abbrev pub StepCounts : List ℕ → ℕ → Maybe Step → Type 0
StepCounts s at (Some t) = Counts s at t.ch t.next.at.0
StepCounts s at None = Unit {0}

-- a step: the character with the place past it; and of a cursor that came from the start by steps, the line and the column there
pub record StepIs (s : List ℕ) (at : ℕ) (r : Maybe Step) : Type 0 where
  pub is : r ≡ step_at s at
  pub moved : StepMoved (length s) at r
  pub counts : Reached s at → StepCounts s at r

abbrev pub ill_at : Option ℕ → Maybe DocAt
ill_at none = None
ill_at (some place) = Some (doc place)
