-- What the steps along a path promise.
use Rattle.std.specs.Prelude.{Some, None, ◌≡◌, ℕ, ◌+◌, ◌≤◌, List, length}
use Rattle.std.proofs.Math.Option.{Option}
use Rattle.std.proofs.Math.Seq.{slice}
use Rattle.rules.specs.Sizes.{max_room}
use Rattle.rules.specs.Paths.{Element, texts_of}
use Rattle.rules.specs.LookUp.{member_at, value_named}
use Rattle.rules.specs.Jobs.{found_at}
use Rattle.sheet_records.specs.Kinds.Contracts.{End, end_at}
use Rattle.text_elements.specs.Marks.Holding.{Held}
use Rattle.sheet_paths.specs.Answers.{Found, job_of}

-- a place at most a member's few bytes past the table
abbrev pub Near : End → Type 0
Near (Some p) = p.0 ≤ max_room + 7
Near None = Unit {0}

-- an element whose value was found lies inside the names
abbrev pub Inside : ℕ → ℕ → End → Type 0
Inside end len (Some p) = end ≤ len
Inside end len None = Unit {0}

pub record NextIs (table text names : List ℕ) (from end at : ℕ) (r : End) : Type 0 where
  pub is : from ≤ end → end ≤ length names → r ≡ end_at (member_at table text (slice from end names) at)
  pub near : Near r
  pub inside : Inside end (length names) r

pub record ValueNamedIs (table text names marks : List ℕ) (count : ℕ) (r : End) : Type 0 where
  pub is : (es : List Element) → Held 0 0 es names marks → length es ≡ count → r ≡ end_at (value_named table text (texts_of es) 0)
  pub near : Near r

pub record PartIs (table : List ℕ) (limit at : ℕ) (r : Found) : Type 0 where
  pub is : (text : List ℕ) (o : Option ℕ) → length text ≡ limit → o ≡ Option.some at → job_of r ≡ found_at table text o

pub record PartNamedIs (table text names marks : List ℕ) (count : ℕ) (r : Found) : Type 0 where
  pub is : (es : List Element) → Held 0 0 es names marks → length es ≡ count
      → job_of r ≡ found_at table text (value_named table text (texts_of es) 0)
