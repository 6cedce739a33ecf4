-- What the functions that read a whole path promise.
use Rattle.std.specs.Prelude.{◌≡◌, ℕ, ◌+◌, ◌≤◌, Bool, true, false, ◌&&◌, List, eqb, length, Result, Ok, Err}
use Rattle.rules.specs.Sizes.{max_document}
use Rattle.rules.specs.Bytes.{byte_at}
use Rattle.rules.specs.Refusals.{number_of, place_of, Scan, ok, refused}
use Rattle.rules.specs.Characters.{after_inline}
use Rattle.rules.specs.Pieces.{starts_simple}
use Rattle.rules.specs.Paths.{Segment, segments_at, elements_of, any_empty}
use Rattle.text_chars.specs.Cursor.{doc, cur, refusal}
use Rattle.text_chars.specs.declared.Cursor.{Cursor}
use Rattle.text_chars.specs.declared.Refusal.{Refusal}
use Rattle.text_scan.specs.Scan.{EndIs}
use Rattle.text_elements.specs.Marks.Marks.{marks_room, mark_c}
use Rattle.text_elements.specs.Marks.Holding.{Held}
use Rattle.text_elements.specs.Model.{finish_c}
use Rattle.text_elements.specs.declared.Path.{Path}
use Rattle.text_paths.specs.declared.Stop.{Stop}
use Rattle.text_paths.specs.declared.Joined.{Joined}

-- ---- what stands at a place of a path

abbrev pub Stops : Bool → List ℕ → ℕ → Stop → Type 0
Stops key s at Stop.Dollar = (key && eqb (byte_at s at) 36) ≡ true
Stops key s at Stop.End = ((key && eqb (byte_at s at) 36) ≡ false) × (starts_simple s at ≡ false)
Stops key s at Stop.Piece = ((key && eqb (byte_at s at) 36) ≡ false) × (starts_simple s at ≡ true)

pub record StopIs (key : Bool) (s : List ℕ) (at : ℕ) (r : Stop) : Type 0 where
  pub is : Stops key s at r

-- behind a piece, the whitespace is passed
pub record SpaceIs (s : List ℕ) (at : ℕ) (r : Cursor) : Type 0 where
  pub is : at ≤ length s → EndIs s at (after_inline s at) r

-- ---- the end of a path

-- so many elements up to a cursor, and whether one is empty
abbrev pub elements_to : ℕ → Bool → Cursor → Joined
elements_to count empty next = record { count = count; empty = empty; next = next }

abbrev pub Closes : Path → Bool → Cursor → List ℕ → List ℕ → Joined → Type 0
Closes p true c marks marks' r =
    (r ≡ elements_to (finish_c 0 p).count (finish_c 0 p).empty c) × (marks' ≡ mark_c p.count p.used.0 p.place.0 marks)
Closes p false c marks marks' r = (r ≡ elements_to 0 false c) × (marks' ≡ marks)

pub record ClosedIs (p : Path) (any : Bool) (c : Cursor) (marks marks' : List ℕ) (r : Joined) : Type 0 where
  pub is : Closes p any c marks marks' r

-- ---- all of it

-- the text has room for what is left to read, and so have the marks
pub record ElementsAsked (s : List ℕ) (at : ℕ) (out marks : List ℕ) : Type 0 where
  pub short : length s ≤ max_document
  pub inside : at ≤ length s
  pub room : length s ≤ length out + at
  pub marks-room : marks_room ≤ length marks

-- the code's answer to the rules' segments
abbrev pub joined_of : Scan (List Segment) → Result Joined Refusal
joined_of (ok gs end) = Ok (elements_to (length (elements_of gs)) (any_empty (elements_of gs)) (cur end))
joined_of (refused x) = Err (refusal (number_of x) (doc (place_of x)))

-- the buffers hold the elements
abbrev pub HeldIn : Scan (List Segment) → List ℕ → List ℕ → Type 0
HeldIn (ok gs end) out marks = Held 0 0 (elements_of gs) out marks
HeldIn (refused x) out marks = Unit {0}

abbrev pub Ends : ℕ → ℕ → Result Joined Refusal → Type 0
Ends len at (Ok j) = (at ≤ j.next.at.0) × (j.next.at.0 ≤ len) × (j.count ≤ max_document + 1)
Ends len at (Err x) = Unit {0}

pub record ElementsIs (key : Bool) (s : List ℕ) (at : ℕ) (out marks out' marks' : List ℕ) (r : Result Joined Refusal) : Type 0 where
  pub is : r ≡ joined_of (segments_at key s at)
  pub held : HeldIn (segments_at key s at) out' marks'
  pub ends : Ends (length s) at r
  pub same_out : length out' ≡ length out
  pub same-marks : length marks' ≡ length marks
