-- What the functions that join a path's pieces promise.
use Rattle.std.specs.Prelude.{◌≡◌, ℕ, ◌+◌, ◌≤◌, ◌<◌, true, false, List, length, Result, Ok, Err}
use Rattle.std.proofs.Math.Seq.{slice}
use Rattle.rules.specs.Sizes.{max_document}
use Rattle.rules.specs.Refusals.{Refusal as Refusing, number_of, place_of, ok, refused}
use Rattle.rules.specs.Pieces.{Token, starts_simple, simple_at}
use Rattle.rules.specs.Paths.{Segment, segment, segment_of, Element}
use Rattle.text_chars.specs.declared.Cursor.{Cursor}
use Rattle.text_chars.specs.declared.Refusal.{Refusal}
use Rattle.text_elements.specs.Marks.Marks.{marks_room}
use Rattle.text_elements.specs.Segments.Model.{state}
use Rattle.text_elements.specs.Segments.Holding.{Holds}
use Rattle.text_elements.specs.Segments.Pieces.{segment_to, piece_to}
use Rattle.text_elements.specs.declared.Path.{Path}
use Rattle.text_elements.specs.declared.segments.Segment.{Segment as SegmentRead}

-- ---- one piece more

-- the text and the elements grow no more than what was read
pub record Grown (from to : ℕ) (p q : Path) (out marks out' marks' : List ℕ) : Type 0 where
  pub more-text : q.used.0 + from ≤ p.used.0 + to
  pub more-count : q.count + from ≤ p.count + to
  pub same_out : length out' ≡ length out
  pub same-marks : length marks' ≡ length marks

-- what was held behind one segment more
abbrev pub Follows : Segment → Path → List ℕ → List ℕ → Path → List ℕ → List ℕ → Type 0
Follows g p out marks q out' marks' =
    (es : List Element) (e : Element) → Holds (state p out marks) es e
    → Holds (state q out' marks') (segment_to es e g).0 (segment_to es e g).1

-- a piece that is no quoted one: its bytes as written
abbrev pub Writes : List ℕ → ℕ → Cursor → Path → List ℕ → List ℕ → List ℕ → List ℕ → SegmentRead → Type 0
Writes s at c p out marks out' marks' r =
    (r.next ≡ c) × Grown at c.at.0 p r.path out marks out' marks'
    × Follows (segment at (slice at c.at.0 s) false) p out marks r.path out' marks'

pub record WrittenIs (s : List ℕ) (at : ℕ) (c : Cursor) (p : Path) (out marks out' marks' : List ℕ) (r : SegmentRead) : Type 0 where
  pub is : Writes s at c p out marks out' marks' r

-- a piece begins here; the path has room for what is left of the text
pub record SegmentAsked (s : List ℕ) (at : ℕ) (p : Path) (out marks : List ℕ) : Type 0 where
  pub short : length s ≤ max_document
  pub inside : at ≤ length s
  pub begins : starts_simple s at ≡ true
  pub room : p.used.0 + length s ≤ length out + at
  pub near : p.used.0 ≤ at
  pub few : p.count ≤ at
  pub marks-room : marks_room ≤ length marks

-- the piece by the rules, or its refusal
abbrev pub Reads : List ℕ → ℕ → Path → List ℕ → List ℕ → List ℕ → List ℕ → Result SegmentRead Refusal → Type 0
Reads s at p out marks out' marks' (Ok r) =
    (t : Token) × (simple_at s at ≡ ok t r.next.at.0) × (at < r.next.at.0) × (r.next.at.0 ≤ length s)
    × Grown at r.next.at.0 p r.path out marks out' marks' × Follows (segment_of at t) p out marks r.path out' marks'
Reads s at p out marks out' marks' (Err y) =
    (x : Refusing) × (simple_at s at ≡ refused x) × (y.number ≡ number_of x) × (y.place.0 ≡ place_of x)
    × (length out' ≡ length out) × (length marks' ≡ length marks)

pub record SegmentIs (s : List ℕ) (at : ℕ) (p : Path) (out marks out' marks' : List ℕ) (r : Result SegmentRead Refusal) : Type 0 where
  pub is : Reads s at p out marks out' marks' r

-- a piece begins here, behind whitespace from a place on
pub record AdvanceAsked (s : List ℕ) (from at : ℕ) (p : Path) (out marks : List ℕ) : Type 0 where
  pub short : length s ≤ max_document
  pub forward : from ≤ at
  pub inside : at ≤ length s
  pub begins : starts_simple s at ≡ true
  pub room : p.used.0 + length s ≤ length out + from
  pub near : p.used.0 ≤ from
  pub few : p.count ≤ from
  pub marks-room : marks_room ≤ length marks

abbrev pub Advances : List ℕ → ℕ → ℕ → Path → List ℕ → List ℕ → List ℕ → List ℕ → Result SegmentRead Refusal → Type 0
Advances s from at p out marks out' marks' (Ok r) =
    (t : Token) × (simple_at s at ≡ ok t r.next.at.0) × (at < r.next.at.0) × (r.next.at.0 ≤ length s)
    × Grown from r.next.at.0 p r.path out marks out' marks'
    × ((es : List Element) (e : Element) → Holds (state p out marks) es e
    → Holds (state r.path out' marks') (piece_to s from at (segment_of at t) es e).0 (piece_to s from at (segment_of at t) es e).1)
Advances s from at p out marks out' marks' (Err y) =
    (x : Refusing) × (simple_at s at ≡ refused x) × (y.number ≡ number_of x) × (y.place.0 ≡ place_of x)
    × (length out' ≡ length out) × (length marks' ≡ length marks)

pub record AdvanceIs (s : List ℕ) (from at : ℕ) (p : Path) (out marks out' marks' : List ℕ) (r : Result SegmentRead Refusal) : Type 0 where
  pub is : Advances s from at p out marks out' marks' r
