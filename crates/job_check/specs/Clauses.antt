-- What the steps of check promise.
use Rattle.std.specs.Prelude.{◌≡◌, Bool, ◌&&◌, List, ℕ, leb, length}
use Rattle.rules.specs.Sizes.{max_room}

-- whether no part of a sheet is over its bytes
abbrev pub parts_fit : (trail table text : List ℕ) → Bool
parts_fit trail table text = leb (length trail) max_room && leb (length table) max_room && leb (length text) max_room

pub record PartsFit (trail table text : List ℕ) (r : Bool) : Type 0 where
  pub is : r ≡ parts_fit trail table text
