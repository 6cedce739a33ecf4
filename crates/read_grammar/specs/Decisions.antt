-- What the decisions of the grammar promise, by the rules' definitions.
use Rattle.std.specs.Prelude.{Result, Ok, Err, ◌≡◌, ℕ, ◌+◌, ◌≤◌, ◌<◌, Bool, true, false, ◌||◌, List, ltb, eqb, length}
use Rattle.std.proofs.Math.Option.{Option, none, some}
use Rattle.rules.specs.Bytes.{byte_at}
use Rattle.rules.specs.Refusals.{Refusal, number_of, place_of, not_allowed, Scan, ok, refused}
use Rattle.rules.specs.Pieces.{starts_simple}
use Rattle.rules.specs.Reading as rules
use Rattle.text_chars.specs.declared.Cursor.{Cursor}
use Rattle.text_chars.specs.declared.Refusal.{Refusal as Refused}
use Rattle.read_grammar.specs.declared.Start.{Start}
use Rattle.read_grammar.specs.declared.Turn.{Turn}

-- ---- what begins at a place

abbrev pub start_named : Start → Option rules.Start
start_named (Start.Brace c) = some rules.brace
start_named (Start.Bracket c) = some rules.bracket
start_named Start.Dollar = some rules.dollar
start_named Start.Scalar = some rules.simple_start
start_named Start.Nothing = none

-- the bytes that stand there, and the cursor past an opening byte
abbrev pub Begins : List ℕ → ℕ → Start → Type 0
Begins s at (Start.Brace c) = (at < length s) × (byte_at s at ≡ 123) × (c.at.0 ≡ at + 1)
Begins s at (Start.Bracket c) = (at < length s) × (byte_at s at ≡ 91) × (c.at.0 ≡ at + 1)
Begins s at Start.Dollar = (at + 1 < length s) × (byte_at s at ≡ 36) × (byte_at s (at + 1) ≡ 123)
Begins s at Start.Scalar = (at < length s) × (starts_simple s at ≡ true)
Begins s at Start.Nothing = Unit {0}

pub record StartIs (s : List ℕ) (at : ℕ) (r : Start) : Type 0 where
  pub is : rules.start_of s at ≡ start_named r
  pub begins : Begins s at r

pub record NotAllowedIs (s : List ℕ) (at r : ℕ) : Type 0 where
  pub number : r ≡ number_of (not_allowed s at)
  pub place : at ≡ place_of (not_allowed s at)

-- ---- members

-- what closes a container is an ASCII byte, or the end: a cursor stands behind no other single byte
abbrev pub closes : ℕ → Bool
closes closing = ltb closing 128 || eqb closing rules.the_end

abbrev pub Turns : ℕ → List ℕ → ℕ → Turn → Type 0
Turns closing s at (Turn.Close c) =
    (eqb (byte_at s at) closing ≡ true)
    × (c.at.0 ≡ rules.after_closing closing at)
    × (at ≤ c.at.0)
    × (c.at.0 ≤ length s)
Turns closing s at Turn.End = (eqb (byte_at s at) closing ≡ false) × (eqb (byte_at s at) rules.the_end ≡ true) × (at ≡ length s)
Turns closing s at Turn.Member = (eqb (byte_at s at) closing ≡ false) × (eqb (byte_at s at) rules.the_end ≡ false) × (at < length s)

pub record TurnIs (closing : ℕ) (s : List ℕ) (at : ℕ) (r : Turn) : Type 0 where
  pub is : Turns closing s at r

-- ---- places

-- a place that is not before another and not past the end, or the rules' refusal
abbrev pub Placed : Scan ℕ → ℕ → ℕ → Result Cursor Refused → Type 0
Placed m len at (Ok c) = (p : ℕ) × (m ≡ ok p c.at.0) × (at ≤ c.at.0) × (c.at.0 ≤ len)
Placed m len at (Err e) = (x : Refusal) × (m ≡ refused x) × (e.number ≡ number_of x) × (e.place.0 ≡ place_of x)

pub record PlaceIs (m : Scan ℕ) (s : List ℕ) (at : ℕ) (r : Result Cursor Refused) : Type 0 where
  pub is : Placed m (length s) at r
