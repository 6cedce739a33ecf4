-- What reading a number and writing an item promise.
use Rattle.std.specs.Prelude.{◌≡◌, ℕ, ◌+◌, ◌*◌, ◌≤◌, ◌<◌, List, length, get_or}
use Rattle.doc_items.specs.Codes.{width}
use Rattle.doc_items.specs.Room.{number_bound}
use Rattle.doc_items.specs.declared.Item.{Item}

pub record ReadIs (table : List ℕ) (at r : ℕ) : Type 0 where
  pub is : r ≡ get_or table at 0
  pub small : r < number_bound

pub record FourAsked (at a b c d : ℕ) (table : List ℕ) : Type 0 where
  pub room : at + 4 ≤ length table
  pub one : a < number_bound
  pub two : b < number_bound
  pub three : c < number_bound
  pub four : d < number_bound

pub record FourIs (at a b c d : ℕ) (before after : List ℕ) : Type 0 where
  pub one : get_or after at 0 ≡ a
  pub two : get_or after (at + 1) 0 ≡ b
  pub three : get_or after (at + 2) 0 ≡ c
  pub four : get_or after (at + 3) 0 ≡ d
  pub below : (k : ℕ) → k < at → get_or after k 0 ≡ get_or before k 0
  pub above : (k : ℕ) → at + 4 ≤ k → get_or after k 0 ≡ get_or before k 0
  pub kept : length after ≡ length before

-- each number fits, and the table has room for the item
pub record ItemAsked (i : ℕ) (x : Item) (table : List ℕ) : Type 0 where
  pub room : width * i + width ≤ length table
  pub kind : x.kind < number_bound
  pub size : x.size < number_bound
  pub key : x.key.0 < number_bound
  pub keylen : x.keylen.0 < number_bound
  pub text : x.text.0 < number_bound
  pub textlen : x.textlen.0 < number_bound
  pub place : x.place.0 < number_bound
  pub number : x.number < number_bound

-- the item's numbers stand in the table, and no other number changes
pub record ItemIs (i : ℕ) (x : Item) (before after : List ℕ) : Type 0 where
  pub kind : get_or after (width * i) 0 ≡ x.kind
  pub size : get_or after (width * i + 1) 0 ≡ x.size
  pub key : get_or after (width * i + 2) 0 ≡ x.key.0
  pub keylen : get_or after (width * i + 3) 0 ≡ x.keylen.0
  pub text : get_or after (width * i + 4) 0 ≡ x.text.0
  pub textlen : get_or after (width * i + 5) 0 ≡ x.textlen.0
  pub place : get_or after (width * i + 6) 0 ≡ x.place.0
  pub number : get_or after (width * i + 7) 0 ≡ x.number
  pub below : (k : ℕ) → k < width * i → get_or after k 0 ≡ get_or before k 0
  pub above : (k : ℕ) → width * i + width ≤ k → get_or after k 0 ≡ get_or before k 0
  pub kept : length after ≡ length before
