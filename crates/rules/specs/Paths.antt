-- Document 01, "Reading": "A key is simple pieces joined as text, then split at each dot not inside quotes." "`${path}` and `${?path}`
-- take a path like a key's; outer spaces dropped, no newline, no comment (3). A look-up's path text is read likewise."
use Rattle.std.specs.Prelude.{ℕ, zero, suc, ◌+◌, List, [], ◌∷◌, ◌++◌, map, Bool, true, false, ◌&&◌, ◌||◌, ltb, eqb, length}
use Rattle.std.proofs.Math.Option.{Option, none, some}
use Rattle.std.proofs.Math.ListN.{get_elem?}
use Rattle.std.proofs.Math.Seq.{slice}
use Rattle.rules.specs.Sizes.{max_path}
use Rattle.rules.specs.Bytes.{Text, byte_at}
use Rattle.rules.specs.Ascii as ascii
use Rattle.rules.specs.Refusals.{Refusal, placed, spent, not_allowed, Scan, ok, refused, and_then}
use Rattle.rules.specs.Characters.{after_inline}
use Rattle.rules.specs.Pieces.{Token, stops_unquoted, starts_simple, starts_with, simple_at, scalar_text}
use Rattle.rules.specs.Tree.{Key, Substitution}

-- what stands between two pieces, or one piece: "simple pieces joined as text"
pub record Segment : Type 0 where
  pub place : ℕ
  pub text : Text
  pub in_quotes : Bool

abbrev pub segment : (place : ℕ) (text : Text) (in_quotes : Bool) → Segment
segment place text in_quotes = record { place = place; text = text; in_quotes = in_quotes }

unfoldable pub segment_of : ℕ → Token → Segment
unfolding scalar_text
segment_of at t = segment at (scalar_text t.scalar) t.in_quotes

-- the whitespace between pieces is kept
unfoldable pub gap_segment : (s : List ℕ) (from at : ℕ) → List Segment
gap_segment s from at = elim (ltb from at) [ true ↦ segment from (slice from at s) false ∷ [] | false ↦ [] ]

abbrev pub word_include : Text
word_include = ascii.i ∷ ascii.n ∷ ascii.c ∷ ascii.l ∷ ascii.u ∷ ascii.d ∷ ascii.e ∷ []

-- "key's first piece is unquoted text: `include`, or starting `include.`", of a key at this place
unfoldable pub starts_include : (s : List ℕ) (at : ℕ) → Bool
unfolding starts_with stops_unquoted
starts_include s at = starts_with word_include s at && (stops_unquoted s (at + 7) || eqb (byte_at s (at + 7)) ascii.dot)

-- The segments of a path from a place on, up to the first byte that starts no further piece; `from` is the end of the piece before.
-- "any `$` in a key is 7", given at once.
unfoldable pub segments_from : (fuel : ℕ) (key : Bool) (s : List ℕ) (from at : ℕ) → Scan (List Segment)
unfolding starts_simple simple_at segment_of gap_segment after_inline
segments_from zero key s from at = refused spent
segments_from (suc n) key s from at =
    elim (key && eqb (byte_at s at) ascii.dollar) [
      | true ↦ refused (placed 7 at)
      | false ↦ elim (starts_simple s at) [
        | false ↦ ok [] at
        | true ↦
            and_then (simple_at s at) (λ t end.
            and_then (segments_from n key s end (after_inline s end)) (λ rest after.
            ok (gap_segment s from at ++ (segment_of at t ∷ rest)) after))
      ]
    ]

unfoldable pub segments_at : (key : Bool) (s : List ℕ) (at : ℕ) → Scan (List Segment)
unfolding segments_from
segments_at key s at = segments_from (suc (length s)) key s at at

-- an element of a path; an empty one is allowed only with a quoted piece in it
pub record Element : Type 0 where
  pub place : ℕ
  pub text : Text
  pub has_quotes : Bool

abbrev pub fresh : ℕ → Element
fresh place = record { place = place; text = []; has_quotes = false }

abbrev pub grown : Element → Text → Bool → Element
grown e t q = record { place = e.place; text = e.text ++ t; has_quotes = e.has_quotes || q }

-- the elements of unquoted text, the first begun before it, the last handed on
unfoldable pub split_text : (e : Element) (at : ℕ) (t : Text) (k : Element → List Element) → List Element
split_text e at [] k = k e
split_text e at (b ∷ bs) k =
    elim (eqb b ascii.dot) [
      | true ↦ e ∷ split_text (fresh (at + 1)) (at + 1) bs k
      | false ↦ split_text (grown e (b ∷ []) false) (at + 1) bs k
    ]

unfoldable pub split_from : Element → List Segment → List Element
unfolding split_text
split_from e [] = e ∷ []
split_from e (g ∷ gs) =
    elim g.in_quotes [
      | true ↦ split_from (grown e g.text true) gs
      | false ↦ split_text e g.place g.text (λ e'. split_from e' gs)
    ]

-- no pieces, no elements: an empty path
unfoldable pub elements_of : List Segment → List Element
unfolding split_from
elements_of [] = []
elements_of (g ∷ gs) = split_from (fresh g.place) (g ∷ gs)

-- "an empty path or empty unquoted path element"
unfoldable pub is_empty : Element → Bool
is_empty e = elim e.text [ [] ↦ elim e.has_quotes [ true ↦ false | false ↦ true ] | b ∷ bs ↦ false ]

unfoldable pub any_empty : List Element → Bool
unfolding is_empty
any_empty [] = false
any_empty (e ∷ es) = elim (is_empty e) [ true ↦ true | false ↦ any_empty es ]

-- "judged at its end, 7 before 8": the place of 7, and how many elements are allowed; "of several 8 judged together the first place
-- counts", and the elements' places rise, so it is the first element that is too many
unfoldable pub judge : (seven allowed : ℕ) (es : List Element) → Option Refusal
unfolding any_empty
judge seven allowed [] = some (placed 7 seven)
judge seven allowed (e ∷ es) =
    elim (any_empty (e ∷ es)) [
      | true ↦ some (placed 7 seven)
      | false ↦ elim (get_elem? (e ∷ es) allowed) [ none ↦ none | some x ↦ some (placed 8 x.place) ]
    ]

abbrev pub texts_of : List Element → List Text
texts_of es = map (λ e. e.text) es

abbrev pub keys_of : List Element → List Key
keys_of es = map (λ e. record { text = e.text; place = e.place }) es

abbrev pub judged : {A : Type 0} (verdict : Option Refusal) (a : A) (at : ℕ) → Scan A
judged none a at = ok a at
judged (some x) a at = refused x

-- a substitution's path up to its `}`, judged there
unfoldable pub braced : (s : List ℕ) (dollar : ℕ) (optional : Bool) (at : ℕ) → Scan Substitution
unfolding segments_at elements_of judge not_allowed
braced s dollar optional at =
    and_then (segments_at false s at) (λ gs end.
    elim (eqb (byte_at s end) ascii.close_brace) [
      | false ↦ refused (not_allowed s end)
      | true ↦
          let es = elements_of gs in
          judged (judge dollar max_path es) (record { place = dollar; optional = optional; path = texts_of es }) (end + 1)
    ])

-- the substitution at a `${`
unfoldable pub substitution_at : (s : List ℕ) (at : ℕ) → Scan Substitution
unfolding braced after_inline
substitution_at s at =
    elim (eqb (byte_at s (at + 2)) ascii.question) [
      | true ↦ braced s at true (after_inline s (at + 3))
      | false ↦ braced s at false (after_inline s (at + 2))
    ]

-- a look-up's path text
unfoldable pub path_text : List ℕ → Scan (List Text)
unfolding segments_at elements_of judge after_inline
path_text s =
    and_then (segments_at false s (after_inline s 0)) (λ gs end.
    elim (ltb end (length s)) [
      | true ↦ refused (placed 3 end)
      | false ↦ let es = elements_of gs in judged (judge 0 max_path es) (texts_of es) end
    ])

-- the length of all texts of a path
unfoldable pub sizes : List Element → ℕ
sizes [] = 0
sizes (e ∷ es) = length e.text + sizes es
