-- What the functions promise, by the rules' definitions: one certain character, the code point of an escape, and a text that is decoded into
-- a lent buffer.
use Rattle.std.specs.Prelude.{◌≡◌, ℕ, ◌+◌, ◌-◌, ◌≤◌, ◌<◌, List, length, Option, Result, Ok, Err}
use Rattle.rules.specs.Characters.{no_character}
use Rattle.rules.specs.Bytes.{Text}
use Rattle.rules.specs.Refusals.{placed, number_of, place_of, Scan, ok, refused}
use Rattle.rules.specs.Utf8.{encoded}
use Rattle.rules.specs.Strings.{expect, letter_escape, escape_at}
use Rattle.text_chars.specs.Cursor.{doc, cur, refusal}
use Rattle.text_chars.specs.declared.Cursor.{Cursor}
use Rattle.text_chars.specs.declared.Refusal.{Refusal}
use Rattle.text_chars.specs.declared.TextLen.{TextLen}
use Rattle.text_bytes.specs.Clauses.{Laid}
use Rattle.text_escapes.specs.Units.{maybe}
use Rattle.text_escapes.specs.declared.CodePoint.{CodePoint}
use Rattle.text_escapes.specs.declared.Quoted.{Quoted}

-- ---- characters and code points

pub record LetterIs (ch : ℕ) (r : Option ℕ) : Type 0 where
  pub is : r ≡ maybe (letter_escape ch)

-- what the rules give where a function answers
abbrev pub expect_scan : ℕ → Result Cursor Refusal → Scan ℕ
expect_scan b (Ok c) = ok b c.at.0
expect_scan b (Err x) = refused (placed x.number x.place.0)

abbrev pub ExpectFar : ℕ → ℕ → Result Cursor Refusal → Type 0
ExpectFar len at (Ok c) = (c.at.0 ≡ at + 1) × (c.at.0 ≤ len)
ExpectFar len at (Err x) = Unit {0}

pub record ExpectIs (b : ℕ) (s : List ℕ) (first at : ℕ) (r : Result Cursor Refusal) : Type 0 where
  pub is : expect b s first at ≡ expect_scan b r
  pub far : ExpectFar (length s) at r

abbrev pub point : ℕ → Cursor → CodePoint
point ch next = record { ch = ch; next = next }

-- the text of a code point
abbrev pub point_scan : Result CodePoint Refusal → Scan Text
point_scan (Ok x) = ok (encoded x.ch) x.next.at.0
point_scan (Err x) = refused (placed x.number x.place.0)

abbrev pub PointFar : ℕ → ℕ → Result CodePoint Refusal → Type 0
PointFar len at (Ok x) = (x.ch < no_character) × (at + 4 ≤ x.next.at.0) × (x.next.at.0 ≤ len)
PointFar len at (Err x) = Unit {0}

pub record PointIs (m : Scan Text) (s : List ℕ) (at : ℕ) (r : Result CodePoint Refusal) : Type 0 where
  pub is : m ≡ point_scan r
  pub far : PointFar (length s) at r

-- ---- a decoded text

-- so many bytes of decoded text
abbrev pub sized : ℕ → TextLen
sized n = record { 0 = n }

-- a text by the cursor past it and its size
abbrev pub quoted : Cursor → TextLen → Quoted
quoted next used = record { next = next; used = used }

-- the answer to what the rules give
abbrev pub quoted_of : Scan Text → Result Quoted Refusal
quoted_of (ok text end) = Ok (quoted (cur end) (sized (length text)))
quoted_of (Scan.refused x) = Err (refusal (number_of x) (doc (place_of x)))

-- the text stands at the start of the buffer; of a refusal nothing is said
abbrev pub TextLaid : Scan Text → List ℕ → List ℕ → Type 0
TextLaid (ok text end) before after = Laid text before after
TextLaid (Scan.refused x) before after = Unit {0}

-- forward, not past the end, and no more bytes than were read
abbrev pub TextFar : ℕ → ℕ → Result Quoted Refusal → Type 0
TextFar len at (Ok q) = (at < q.next.at.0) × (q.next.at.0 ≤ len) × (q.used.0 ≤ q.next.at.0 - at)
TextFar len at (Err x) = Unit {0}

-- what is read from a place on, by the rules' function m, into a buffer
pub record Decoded (m : Scan Text) (s : List ℕ) (at : ℕ) (before after : List ℕ) (r : Result Quoted Refusal) : Type 0 where
  pub is : r ≡ quoted_of m
  pub bytes : TextLaid m before after
  pub kept : length after ≡ length before
  pub far : TextFar (length s) at r

abbrev pub EscapeIs : List ℕ → ℕ → List ℕ → List ℕ → Result Quoted Refusal → Type 0
EscapeIs s at = Decoded (escape_at s at) s at
