-- What the functions on simple pieces promise, by the rules' definitions.
use Rattle.std.specs.Prelude.{◌≡◌, ℕ, ◌-◌, ◌≤◌, ◌<◌, Bool, true, false, ◌||◌, List, ◌++◌, eqb, length, drop, Result, Ok, Err}
use Rattle.std.proofs.Math.Seq.{slice}
use Rattle.rules.specs.Sizes.{max_document}
use Rattle.rules.specs.Bytes.{byte_at}
use Rattle.rules.specs.Refusals.{number_of, place_of, Scan, ok, refused, and_then}
use Rattle.rules.specs.Numbers.{is_digit}
use Rattle.rules.specs.Strings.{quoted_at}
use Rattle.rules.specs.Tree.{Scalar, null, boolean, number, string}
use Rattle.rules.specs.Pieces.{Token, token, stops_unquoted, starts_simple, scalar_text}
use Rattle.text_chars.specs.Cursor.{doc, cur, refusal}
use Rattle.text_chars.specs.declared.Refusal.{Refusal}
use Rattle.text_pieces.specs.declared.Piece.{Piece}
use Rattle.text_pieces.specs.declared.Lead.{Lead}

-- ---- what a piece begins with

abbrev pub starts_number : ℕ → Bool
starts_number b = is_digit b || eqb b 45

abbrev pub Leads : List ℕ → ℕ → Lead → Type 0
Leads s at Lead.Quote = byte_at s at ≡ 34
Leads s at Lead.Number = (byte_at s at ≡ 34 → ⊥) × (starts_number (byte_at s at) ≡ true)
Leads s at Lead.Text = (byte_at s at ≡ 34 → ⊥) × (starts_number (byte_at s at) ≡ false)

pub record LeadIs (s : List ℕ) (at : ℕ) (r : Lead) : Type 0 where
  pub is : Leads s at r

-- ---- the code's answer to what the rules give

-- a piece outside quotes: unquoted text is a string, all others are plain, by the kind of their records
abbrev pub of_scalar : Scalar → ℕ → Piece
of_scalar null end = Piece.Plain 1 (cur end)
of_scalar (boolean false) end = Piece.Plain 2 (cur end)
of_scalar (boolean true) end = Piece.Plain 3 (cur end)
of_scalar (number t) end = Piece.Plain 4 (cur end)
of_scalar (string t) end = Piece.Unquoted (cur end)

abbrev pub of_token : Bool → Scalar → ℕ → Piece
of_token true x end = Piece.Quoted (cur end) (record { 0 = length (scalar_text x) })
of_token false x end = of_scalar x end

abbrev pub piece_of : Scan Token → Result Piece Refusal
piece_of (ok t end) = Ok (of_token t.in_quotes t.scalar end)
piece_of (refused x) = Err (refusal (number_of x) (doc (place_of x)))

-- ---- places and buffers

-- a piece is not empty, not past the end, and its text no longer than what was read
abbrev pub Moved : ℕ → ℕ → Result Piece Refusal → Type 0
Moved len at (Ok (Piece.Quoted c used)) = (at < c.at.0) × (c.at.0 ≤ len) × (used.0 ≤ c.at.0 - at)
Moved len at (Ok (Piece.Unquoted c)) = (at < c.at.0) × (c.at.0 ≤ len)
Moved len at (Ok (Piece.Plain kind c)) = (at < c.at.0) × (c.at.0 ≤ len)
Moved len at (Err x) = Unit {0}

-- outside quotes a piece's text is what is written
abbrev pub Spelt : List ℕ → ℕ → Scan Token → Type 0
Spelt s at (ok t end) = t.in_quotes ≡ false → scalar_text t.scalar ≡ slice at end s
Spelt s at (refused x) = Unit {0}

-- a piece that needs no buffer
abbrev pub Bare : Scan Token → Type 0
Bare (ok t end) = t.in_quotes ≡ false
Bare (refused x) = Unit {0}

pub record ScanIs (m : Scan Token) (s : List ℕ) (at : ℕ) (r : Result Piece Refusal) : Type 0 where
  pub is : r ≡ piece_of m
  pub moved : Moved (length s) at r
  pub spelt : Spelt s at m
  pub bare : Bare m

-- the text of a quoted piece stands at the start of the buffer; any other leaves it as it was
abbrev pub LaidToken : Bool → Scalar → List ℕ → List ℕ → Type 0
LaidToken true x before after = after ≡ scalar_text x ++ drop (length (scalar_text x)) before
LaidToken false x before after = after ≡ before

abbrev pub LaidPiece : Scan Token → List ℕ → List ℕ → Type 0
LaidPiece (ok t end) before after = LaidToken t.in_quotes t.scalar before after
LaidPiece (refused x) before after = Unit {0}

pub record PieceIs (m : Scan Token) (s : List ℕ) (at : ℕ) (before after : List ℕ) (r : Result Piece Refusal) : Type 0 where
  pub is : r ≡ piece_of m
  pub moved : Moved (length s) at r
  pub spelt : Spelt s at m
  pub laid : LaidPiece m before after
  pub kept : length after ≡ length before

-- unquoted text begins here
pub record TextAsked (s : List ℕ) (at : ℕ) : Type 0 where
  pub short : length s ≤ max_document
  pub inside : at ≤ length s
  pub begins : stops_unquoted s at ≡ false

-- a simple piece begins here, and its text has room
pub record PieceAsked (s : List ℕ) (at : ℕ) (out : List ℕ) : Type 0 where
  pub short : length s ≤ max_document
  pub inside : at ≤ length s
  pub begins : starts_simple s at ≡ true
  pub room : length s - at ≤ length out

unfoldable pub quoted_token : List ℕ → ℕ → Scan Token
unfolding quoted_at
quoted_token s at = and_then (quoted_at s at) (λ t end. ok (token true (string t)) end)
