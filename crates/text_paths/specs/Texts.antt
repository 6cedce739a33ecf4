-- What reading a path text promises.
use Rattle.std.specs.Prelude.{◌≡◌, ℕ, ◌≤◌, Bool, true, false, List, ltb, length, Result, Ok, Err}
use Rattle.rules.specs.Sizes.{max_document, max_path}
use Rattle.rules.specs.Bytes.{Text}
use Rattle.rules.specs.Refusals.{placed, number_of, place_of, Scan, ok, refused}
use Rattle.rules.specs.Paths.{Element, any_empty, judge, judged, texts_of, path_text}
use Rattle.text_chars.specs.Cursor.{doc, refusal}
use Rattle.text_chars.specs.declared.Refusal.{Refusal}
use Rattle.text_elements.specs.Marks.Marks.{marks_room}
use Rattle.text_elements.specs.Marks.Holding.{Held}

-- the code's answer to the rules'
abbrev pub read_of : Scan (List Text) → Result ℕ Refusal
read_of (ok ts end) = Ok (length ts)
read_of (refused x) = Err (refusal (number_of x) (doc (place_of x)))

-- elements are judged at their end, which is the text's
unfoldable pub ended_scan : List ℕ → List Element → ℕ → Scan (List Text)
unfolding judge
ended_scan s es end =
    elim (ltb end (length s)) [ true ↦ refused (placed 3 end) | false ↦ judged (judge 0 max_path es) (texts_of es) end ]

pub record EndedIs (s : List ℕ) (count : ℕ) (empty : Bool) (end : ℕ) (marks : List ℕ) (r : Result ℕ Refusal) : Type 0 where
  pub is : (es : List Element) (out : List ℕ) → Held 0 0 es out marks → count ≡ length es → empty ≡ any_empty es
      → r ≡ read_of (ended_scan s es end)

pub record PathAsked (s out marks : List ℕ) : Type 0 where
  pub short : length s ≤ max_document
  pub room : length s ≤ length out
  pub marks-room : marks_room ≤ length marks

-- the texts of a path that was read stand in the buffers
abbrev pub HeldTexts : Scan (List Text) → List ℕ → List ℕ → Type 0
HeldTexts (ok ts end) out marks = (es : List Element) × (texts_of es ≡ ts) × (length es ≤ max_path) × Held 0 0 es out marks
HeldTexts (refused x) out marks = Unit {0}

pub record PathIs (s out marks : List ℕ) (r : Result ℕ Refusal) : Type 0 where
  pub is : r ≡ read_of (path_text s)
  pub held : HeldTexts (path_text s) out marks
