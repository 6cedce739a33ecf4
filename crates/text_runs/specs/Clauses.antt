-- What the functions that pass over a run of a string's body promise.
use Rattle.std.specs.Prelude.{◌≡◌, ℕ, ◌+◌, ◌-◌, ◌≤◌, ◌<◌, Bool, true, false, List, ltb, eqb, length, Option, Some, None}
use Rattle.rules.specs.Bytes.{byte_at}
use Rattle.rules.specs.Ascii as ascii
use Rattle.rules.specs.Characters.{next_place}
use Rattle.text_chars.specs.declared.Cursor.{Cursor}

abbrev pub block_size : ℕ
block_size = 64

-- a byte that ends a run: one below the least, the quote, or one other
unfoldable pub stops : (least other b : ℕ) → Bool
stops least other b = elim (ltb b least) [
  | true ↦ true
  | false ↦ elim (eqb b ascii.quote) [ true ↦ true | false ↦ eqb b other ]
]

-- an ASCII byte that a run goes over
pub record Plain (least other b : ℕ) : Type 0 where
  pub ascii : b < 128
  pub goes : stops least other b ≡ false

-- character by character from a place to another, none of them of a byte that ends a run
pub data Passed (least other : ℕ) (s : List ℕ) (at : ℕ) : ℕ → Type 0 where
  none : Passed least other s at at
  on : {p q : ℕ} → Passed least other s at p → p < length s → stops least other (byte_at s p) ≡ false → q ≡ next_place s p
      → Passed least other s at q

-- so many bytes from a place on are plain
abbrev pub AllPlain : (least other : ℕ) (s : List ℕ) (at n : ℕ) → Type 0
AllPlain least other s at n = (i : ℕ) → i < n → Plain least other (byte_at s (at + i))

pub record BlockIs (least other : ℕ) (s : List ℕ) (at : ℕ) (r : Bool) : Type 0 where
  pub fits : r ≡ true → at + block_size ≤ length s
  pub all : r ≡ true → AllPlain least other s at block_size

-- no further than the end, where the run did not begin past it
pub record RunIs (least other : ℕ) (s : List ℕ) (at : ℕ) (r : Cursor) : Type 0 where
  pub passed : Passed least other s at r.at.0
  pub forward : at ≤ r.at.0
  pub inside : r.at.0 - at ≤ length s - at

abbrev pub OneSays : (least other : ℕ) (s : List ℕ) (at : ℕ) → Option Cursor → Type 0
OneSays least other s at (Some c) =
    (at < length s) × (stops least other (byte_at s at) ≡ false) × (c.at.0 ≡ next_place s at) × (at < c.at.0) × (c.at.0 ≤ length s)
OneSays least other s at None = Unit {0}

pub record OneIs (least other : ℕ) (s : List ℕ) (at : ℕ) (r : Option Cursor) : Type 0 where
  pub says : OneSays least other s at r

-- in a quoted string
abbrev pub PlainIs : List ℕ → ℕ → Cursor → Type 0
PlainIs = RunIs ascii.space ascii.backslash

-- in a triple-quoted one: the quote is the other byte too, and no byte is below the least
abbrev pub RawRunIs : List ℕ → ℕ → Cursor → Type 0
RawRunIs = RunIs 0 ascii.quote
