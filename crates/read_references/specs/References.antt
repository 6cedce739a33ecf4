-- What reading a substitution promises.
use Rattle.std.specs.Prelude.{Result, Ok, Err, ◌≡◌, ℕ, zero, suc, ◌+◌, ◌-◌, ◌*◌, ◌/◌, ◌%◌, ◌≤◌, ◌<◌, Bool, true, false, List, [], ◌∷◌, ◌++◌, eqb, length, take}
use Rattle.rules.specs.Sizes.{max_document, max_path}
use Rattle.rules.specs.Bytes.{byte_at}
use Rattle.rules.specs.Refusals.{Refusal, number_of, place_of, not_allowed, Scan, ok, refused}
use Rattle.rules.specs.Paths.{Element, any_empty, judge, judged, texts_of, braced, substitution_at, sizes}
use Rattle.rules.specs.Tree.{Substitution}
use Rattle.text_elements.specs.Marks.Marks.{marks_room, end_of}
use Rattle.text_elements.specs.Marks.Holding.{Held}
use Rattle.text_chars.specs.declared.TextLen.{TextLen}
use Rattle.text_chars.specs.declared.Cursor.{Cursor}
use Rattle.text_chars.specs.declared.Refusal.{Refusal as Refused}
use Rattle.doc_items.specs.Codes.{path_texts, path_bytes}
use Rattle.read_references.specs.declared.Opened.{Opened}
use Rattle.read_references.specs.declared.Between.{Between}
use Rattle.read_references.specs.declared.ReferenceRead.{ReferenceRead}

-- ---- the first bytes

-- `${` stands here
pub record OpenedAsked (s : List ℕ) (at : ℕ) : Type 0 where
  pub short : length s ≤ max_document
  pub inside : at + 1 < length s
  pub dollar : byte_at s at ≡ 36
  pub brace : byte_at s (at + 1) ≡ 123

pub record OpenedIs (s : List ℕ) (at : ℕ) (r : Opened) : Type 0 where
  pub is : substitution_at s at ≡ braced s at r.optional r.next.at.0
  pub forward : at + 2 ≤ r.next.at.0
  pub inside : r.next.at.0 ≤ length s

-- ---- the last byte

pub record BraceAsked (s : List ℕ) (end : ℕ) (marks : List ℕ) : Type 0 where
  pub short : length s ≤ max_document
  pub inside : end ≤ length s
  pub marks-room : marks_room ≤ length marks

abbrev pub substitute : ℕ → Bool → List Element → Substitution
substitute dollar optional es = record { place = dollar; optional = optional; path = texts_of es }

-- elements are judged at the `}`
unfoldable pub braced_scan : List ℕ → ℕ → Bool → List Element → ℕ → Scan Substitution
unfolding judge not_allowed
braced_scan s dollar optional es end =
    elim (eqb (byte_at s end) 125) [
      | false ↦ refused (not_allowed s end)
      | true ↦ judged (judge dollar max_path es) (substitute dollar optional es) (end + 1)
    ]

abbrev pub Braces : List ℕ → ℕ → List Element → ℕ → Result Cursor Refused → Type 0
Braces s dollar es end (Ok c) =
    ((optional : Bool) → braced_scan s dollar optional es end ≡ ok (substitute dollar optional es) c.at.0)
    × (c.at.0 ≡ end + 1) × (end < length s) × (0 < length es) × (length es ≤ max_path)
Braces s dollar es end (Err e) =
    (x : Refusal) × ((optional : Bool) → braced_scan s dollar optional es end ≡ refused x) × (e.number ≡ number_of x) × (e.place.0 ≡ place_of x)

pub record BraceIs (s : List ℕ) (end count : ℕ) (empty : Bool) (dollar : ℕ) (marks : List ℕ) (r : Result Cursor Refused) : Type 0 where
  pub is : (es : List Element) (out : List ℕ) → Held 0 0 es out marks → count ≡ length es → empty ≡ any_empty es → Braces s dollar es end r

-- ---- the path between the braces

-- its elements stand in the buffers
abbrev pub Betweens : List ℕ → ℕ → ℕ → List ℕ → List ℕ → Result Between Refused → Type 0
Betweens s at dollar text marks (Ok v) =
    (es : List Element) × ((optional : Bool) → braced s dollar optional at ≡ ok (substitute dollar optional es) v.next.at.0)
    × Held 0 0 es text marks × (v.count ≡ length es) × (0 < length es) × (length es ≤ max_path)
    × (sizes es + length es + at ≤ v.next.at.0) × (v.next.at.0 ≤ length s)
Betweens s at dollar text marks (Err e) =
    (x : Refusal) × ((optional : Bool) → braced s dollar optional at ≡ refused x) × (e.number ≡ number_of x) × (e.place.0 ≡ place_of x)

pub record BetweenIs (s : List ℕ) (at dollar : ℕ) (before after marks : List ℕ) (r : Result Between Refused) : Type 0 where
  pub is : Betweens s at dollar after marks r
  pub kept : length after ≡ length before
  pub marks-room : marks_room ≤ length marks

-- ---- the ends behind the texts

-- the first so many ends of the marks
unfoldable pub ends_to : List ℕ → ℕ → List ℕ
ends_to marks zero = []
ends_to marks (suc n) = ends_to marks n ++ (end_of marks n / 256 ∷ end_of marks n % 256 ∷ [])

pub record EndsAsked (marks : List ℕ) (count : ℕ) (out : List ℕ) : Type 0 where
  pub some : 0 < count
  pub few : count ≤ max_path
  pub marks-room : marks_room ≤ length marks
  pub low : (i : ℕ) → i < count → end_of marks i ≤ max_document
  pub room : end_of marks (count - 1) + 2 * count ≤ length out

pub record EndsIs (marks : List ℕ) (count : ℕ) (before after : List ℕ) (r : TextLen) : Type 0 where
  pub is : r.0 ≡ end_of marks (count - 1)
  pub wrote : take (r.0 + 2 * count) after ≡ take r.0 before ++ ends_to marks count
  pub kept : length after ≡ length before

-- ---- all of it

pub record ReferenceAsked (s : List ℕ) (at : ℕ) (text : List ℕ) : Type 0 where
  pub short : length s ≤ max_document
  pub inside : at + 1 < length s
  pub dollar : byte_at s at ≡ 36
  pub brace : byte_at s (at + 1) ≡ 123
  pub room : 2 * (length s - at) ≤ length text

-- the substitution by the rules with its path at the start of the buffer, or its refusal
abbrev pub References : List ℕ → ℕ → List ℕ → Result ReferenceRead Refused → Type 0
References s at after (Ok v) =
    (x : Substitution) × (substitution_at s at ≡ ok x v.next.at.0) × (x.place ≡ at) × (x.optional ≡ v.optional)
    × (v.count ≡ length x.path) × (v.count ≤ max_path)
    × (v.size.0 ≡ length (path_texts x.path)) × (take (v.size.0 + 2 * v.count) after ≡ path_bytes x.path)
    × (at < v.next.at.0) × (v.next.at.0 ≤ length s) × (v.size.0 + 2 * v.count + 2 * at ≤ 2 * v.next.at.0)
References s at after (Err e) =
    (x : Refusal) × (substitution_at s at ≡ refused x) × (e.number ≡ number_of x) × (e.place.0 ≡ place_of x)

pub record ReferenceIs (s : List ℕ) (at : ℕ) (before after : List ℕ) (r : Result ReferenceRead Refused) : Type 0 where
  pub is : References s at after r
  pub kept : length after ≡ length before
