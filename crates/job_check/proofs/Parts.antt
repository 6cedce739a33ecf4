-- Laws of the parts' lengths.
use mathlib.Core.Bool.{true, false}
use mathlib.Core.List.{List}
use Prim.Native.Nat.{◌≤◌, ◌<◌, ℕ}
use lib.ListN.{length}
use borrow.Author.Tests.{le-leb, lt-leb}
use Rattle.rules.specs.Sizes.{max_room}
use Rattle.job_check.specs.Clauses.{PartsFit}

module _ {trail table text : List ℕ} where
  pub long-trail : max_room < length trail → PartsFit trail table text false
  long-trail l = record { is = rw (lt-leb (length trail) max_room l) }

  pub long-table : length trail ≤ max_room → max_room < length table → PartsFit trail table text false
  long-table h l = record { is = rw (le-leb (length trail) max_room h, lt-leb (length table) max_room l) }

  pub long-text : length trail ≤ max_room → length table ≤ max_room → max_room < length text → PartsFit trail table text false
  long-text h k l = record { is = rw (le-leb (length trail) max_room h, le-leb (length table) max_room k, lt-leb (length text) max_room l) }

  pub short-parts : length trail ≤ max_room → length table ≤ max_room → length text ≤ max_room → PartsFit trail table text true
  short-parts h k l = record { is = rw (le-leb (length trail) max_room h, le-leb (length table) max_room k, le-leb (length text) max_room l) }

pub ruleset parts = (long-trail, long-table, long-text, short-parts)
