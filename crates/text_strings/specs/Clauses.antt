-- What the functions that decode a string into a lent buffer promise, by the rules' definitions.
use Rattle.std.specs.Prelude.{◌≡◌, ℕ, suc, ◌+◌, ◌-◌, ◌≤◌, ◌<◌, true, false, List, leb, ltb, eqb, length, Option, Some, None, Result, Ok, Err}
use Rattle.std.proofs.Math.Seq.{slice}
use Rattle.rules.specs.Bytes.{Text, byte_at}
use Rattle.rules.specs.Refusals.{Refusal as Refusing, placed, number_of, place_of, ended, Scan, ok}
use Rattle.rules.specs.Characters.{next_place}
use Rattle.rules.specs.Strings.{escape_at, body_from, three_quotes, quotes_run, after_quotes, quoted_at}
use Rattle.text_chars.specs.Cursor.{doc, cur, refusal}
use Rattle.text_chars.specs.declared.Cursor.{Cursor}
use Rattle.text_chars.specs.declared.Refusal.{Refusal}
use Rattle.text_bytes.specs.Clauses.{Laid}
use Rattle.text_escapes.specs.Clauses.{sized, quoted, Decoded}
use Rattle.text_escapes.specs.declared.Quoted.{Quoted}
use Rattle.text_strings.specs.declared.Piece.{Piece}

abbrev pub QuotedIs : List ℕ → ℕ → List ℕ → List ℕ → Result Quoted Refusal → Type 0
QuotedIs s at = Decoded (quoted_at s at) s at

abbrev pub BodyIs : List ℕ → ℕ → List ℕ → List ℕ → Result Quoted Refusal → Type 0
BodyIs s at = Decoded (body_from (suc (length s)) s at) s at

-- ---- one piece of a quoted string's body

pub data Turn : Type 0 where
  closed : ℕ → Turn
  more : Text → ℕ → Turn
  refused : Refusing → Turn

abbrev pub turn_of : Scan Text → Turn
turn_of (ok text end) = more text end
turn_of (Scan.refused x) = refused x

-- the closing quote, an escape, an ordinary character, or a refusal
unfoldable pub turn_at : List ℕ → ℕ → Turn
unfolding escape_at next_place
turn_at s at =
    elim (leb (length s) at) [
      | true ↦ refused (ended s)
      | false ↦ elim (eqb (byte_at s at) 34) [
        | true ↦ closed (at + 1)
        | false ↦ elim (ltb (byte_at s at) 32) [
          | true ↦ refused (placed 5 at)
          | false ↦ elim (eqb (byte_at s at) 92) [
            | true ↦ turn_of (escape_at s at)
            | false ↦ more (slice at (next_place s at) s) (next_place s at)
          ]
        ]
      ]
    ]

abbrev pub piece_of : Turn → Result Piece Refusal
piece_of (closed end) = Ok (Piece.Close (cur end))
piece_of (more text end) = Ok (Piece.More (quoted (cur end) (sized (length text))))
piece_of (refused x) = Err (refusal (number_of x) (doc (place_of x)))

abbrev pub PieceLaid : Turn → List ℕ → List ℕ → Type 0
PieceLaid (closed end) before after = after ≡ before
PieceLaid (more text end) before after = Laid text before after
PieceLaid (refused x) before after = Unit {0}

abbrev pub PieceFar : ℕ → ℕ → Result Piece Refusal → Type 0
PieceFar len at (Ok (Piece.Close c)) = (at < c.at.0) × (c.at.0 ≤ len)
PieceFar len at (Ok (Piece.More q)) = (at < q.next.at.0) × (q.next.at.0 ≤ len) × (q.used.0 ≤ q.next.at.0 - at)
PieceFar len at (Err x) = Unit {0}

pub record PieceIs (s : List ℕ) (at : ℕ) (before after : List ℕ) (r : Result Piece Refusal) : Type 0 where
  pub is : r ≡ piece_of (turn_at s at)
  pub bytes : PieceLaid (turn_at s at) before after
  pub kept : length after ≡ length before
  pub far : PieceFar (length s) at r

-- ---- triple quotes

abbrev pub ThreeSays : List ℕ → ℕ → Option Cursor → Type 0
ThreeSays s at (Some c) = (three_quotes s at ≡ true) × (c.at.0 ≡ at + 3) × (c.at.0 ≤ length s)
ThreeSays s at None = three_quotes s at ≡ false

pub record ThreeIs (s : List ℕ) (at : ℕ) (r : Option Cursor) : Type 0 where
  pub says : ThreeSays s at r

-- where the closing run of quotes begins
abbrev pub RunSays : List ℕ → ℕ → Option Cursor → Type 0
RunSays s at (Some c) = (c.at.0 ≡ quotes_run s at) × (three_quotes s c.at.0 ≡ true) × (at ≤ c.at.0) × (c.at.0 < length s)
RunSays s at None = length s ≤ quotes_run s at

pub record RunIs (s : List ℕ) (at : ℕ) (r : Option Cursor) : Type 0 where
  pub says : RunSays s at r

pub record AfterIs (s : List ℕ) (at : ℕ) (r : Cursor) : Type 0 where
  pub is : r.at.0 ≡ after_quotes s at
  pub inside : r.at.0 ≤ length s

-- the text of a triple-quoted string, from the place behind its three quotes on
unfoldable pub raw_from : List ℕ → ℕ → Scan Text
unfolding quotes_run after_quotes
raw_from s at =
    let run = quotes_run s at in
    elim (ltb run (length s)) [
      | false ↦ Scan.refused (ended s)
      | true ↦ let end = after_quotes s run in ok (slice at (end - 3) s) end
    ]

abbrev pub RawIs : List ℕ → ℕ → List ℕ → List ℕ → Result Quoted Refusal → Type 0
RawIs s at = Decoded (raw_from s at) s at
