-- What the limits on items and nesting leave at a place.
use Rattle.std.specs.Prelude.{Result, Ok, Err, ◌≡◌, ℕ, ◌+◌, ◌-◌, ◌≤◌, ◌<◌, Bool, true, false, List, length}
use Rattle.std.proofs.Math.Option.{none, some}
use Rattle.rules.specs.Sizes.{max_items, max_nesting, max_path}
use Rattle.rules.specs.Bytes.{byte_at}
use Rattle.rules.specs.Refusals.{Refusal, placed, number_of, place_of, Read, refused}
use Rattle.rules.specs.Pieces.{starts_simple}
use Rattle.rules.specs.Tree.{Node}
use Rattle.rules.specs.Reading.{Start, brace, bracket, dollar, simple_start, start_of, count_item, piece_at, element_at, allowed_keys}
use Rattle.text_chars.specs.declared.Refusal.{Refusal as Refused}
use Rattle.read_grammar.specs.declared.limits.Beginning.{Beginning}

-- nestings that may still be opened inside the root
abbrev pub nesting_in_root : ℕ
nesting_in_root = max_nesting - 1

-- the nesting of a container that so much nesting is left in
abbrev pub nesting_of : ℕ → ℕ
nesting_of left = max_nesting - left

-- ---- how many elements a key may have

pub record AllowedIs (left items r : ℕ) : Type 0 where
  pub is : r ≡ allowed_keys (nesting_of left) items
  pub few : r ≤ max_path

-- ---- what begins at a place of a value

pub record StartsIs (s : List ℕ) (at : ℕ) (r : Bool) : Type 0 where
  pub yes : r ≡ true → (start : Start) × (start_of s at ≡ some start)
  pub no : r ≡ false → start_of s at ≡ none

abbrev pub Begins : List ℕ → ℕ → ℕ → ℕ → Result Beginning Refused → Type 0
Begins s at left items (Ok (Beginning.Object c)) =
    (start_of s at ≡ some brace) × (items < max_items) × (1 ≤ left) × (at < length s) × (c.at.0 ≡ at + 1)
Begins s at left items (Ok (Beginning.Array c)) =
    (start_of s at ≡ some bracket) × (items < max_items) × (1 ≤ left) × (at < length s) × (c.at.0 ≡ at + 1)
Begins s at left items (Ok Beginning.Reference) =
    (start_of s at ≡ some dollar) × (items < max_items) × (at + 1 < length s) × (byte_at s at ≡ 36) × (byte_at s (at + 1) ≡ 123)
Begins s at left items (Ok Beginning.Scalar) = (start_of s at ≡ some simple_start) × (items < max_items) × (at < length s) × (starts_simple s at ≡ true)
Begins s at left items (Ok Beginning.Nothing) = start_of s at ≡ none
Begins s at left items (Err e) =
    (start : Start) × (start_of s at ≡ some start) × (e.number ≡ 8) × (e.place.0 ≡ at)
    × ((value_at : ℕ → ℕ → ℕ → Read Node) → count_item items at (piece_at value_at s (nesting_of left) start at) ≡ refused (placed 8 at))

pub record PieceStartIs (s : List ℕ) (at left items : ℕ) (r : Result Beginning Refused) : Type 0 where
  pub is : Begins s at left items r

-- an element where there may be no further item
pub record ExcessNumberIs (s : List ℕ) (at r : ℕ) : Type 0 where
  pub why : Refusal
  pub is : (value_at : ℕ → ℕ → ℕ → Read Node) (nesting : ℕ) → element_at value_at s nesting at max_items ≡ refused why
  pub number : r ≡ number_of why
  pub place : at ≡ place_of why
