-- What reading a key promises: all of the rules' field up to its value.
use Rattle.std.specs.Prelude.{Result, Ok, Err, ◌≡◌, ℕ, suc, ◌+◌, ◌-◌, ◌≤◌, ◌<◌, Bool, true, List, [], ◌∷◌, length}
use Rattle.std.proofs.Math.Option.{none}
use Rattle.rules.specs.Sizes.{max_document, max_items, max_nesting, max_path}
use Rattle.rules.specs.Refusals.{Refusal, placed, number_of, place_of, ok, Read, got, refused, read_then, keep_items}
use Rattle.rules.specs.Tree.{Key, Node}
use Rattle.rules.specs.Paths.{segments_at, Element, elements_of, any_empty, judge}
use Rattle.rules.specs.Reading.{FieldRead, inside, value_place, allowed_keys, field_judged, field_at}
use Rattle.text_elements.specs.Marks.Marks.{marks_room}
use Rattle.text_elements.specs.Marks.Holding.{Held}
use Rattle.read_grammar.specs.Limits.Limits.{nesting_in_root}
use Rattle.doc_items.specs.Keys.{HeldKeys, key_sizes}
use Rattle.text_chars.specs.declared.Refusal.{Refusal as Refused}
use Rattle.read_keys.specs.declared.KeyRead.{KeyRead}

-- ---- the rules' field, by its parts

-- what reads a value inside a container of a nesting, from a place on
abbrev pub Values : Type 0
Values = ℕ → ℕ → ℕ → Read Node

-- a field whose key does not start with `include`
unfoldable pub keyed : Values → List ℕ → ℕ → ℕ → ℕ → Read FieldRead
unfolding field_judged segments_at elements_of judge
keyed value_at s nesting at items =
    read_then (keep_items items (segments_at true s at)) (λ gs end items₁.
    elim gs [
      | [] ↦ refused (placed 3 end)
      | g ∷ rest ↦
          let es = elements_of (g ∷ rest) in
          field_judged value_at s nesting end items₁ es (judge at (allowed_keys nesting items₁) es)
    ])

-- the value of a field with these keys, at a place
abbrev pub valued : Values → ℕ → ℕ → ℕ → Key → List Key → Read FieldRead
valued value_at nesting at items k ks =
    read_then (value_at (nesting + length ks) at items) (λ node end items₂. got (record { key = k; value = inside ks node }) end items₂)

-- ---- the judgement at a key's end

pub record JudgeKeyAsked (s : List ℕ) (end allowed : ℕ) (marks : List ℕ) : Type 0 where
  pub short : length s ≤ max_document
  pub inside : end ≤ length s
  pub few : allowed ≤ max_path
  pub marks-room : marks_room ≤ length marks

abbrev pub Judges : List ℕ → ℕ → ℕ → ℕ → List Element → Result KeyRead Refused → Type 0
Judges s end first allowed es (Ok v) =
    (p : ℕ) × (value_place s end ≡ ok p v.next.at.0) × (judge first allowed es ≡ none) × (v.count ≡ length es) × (0 < length es)
    × (length es ≤ allowed) × (end ≤ v.next.at.0) × (v.next.at.0 ≤ length s)
Judges s end first allowed es (Err e) =
    (x : Refusal)
    × ((value_at : Values) (nesting items : ℕ) → field_judged value_at s nesting end items es (judge first allowed es) ≡ refused x)
    × (e.number ≡ number_of x) × (e.place.0 ≡ place_of x)

pub record JudgeKeyIs (s : List ℕ) (end count : ℕ) (empty : Bool) (first allowed : ℕ) (marks : List ℕ) (r : Result KeyRead Refused) : Type 0 where
  pub is : (es : List Element) (out : List ℕ) → Held 0 0 es out marks → count ≡ length es → empty ≡ any_empty es → Judges s end first allowed es r

-- ---- a key that does not start with `include`

pub record PathAsked (s : List ℕ) (at allowed : ℕ) (text marks : List ℕ) : Type 0 where
  pub short : length s ≤ max_document
  pub inside : at ≤ length s
  pub few : allowed ≤ max_path
  pub room : length s ≤ length text + at
  pub marks-room : marks_room ≤ length marks

abbrev pub Paths : List ℕ → ℕ → ℕ → List ℕ → List ℕ → Result KeyRead Refused → Type 0
Paths s at allowed text marks (Ok v) =
    (k : Key) × (ks : List Key) × (v.count ≡ suc (length ks)) × (v.count ≤ allowed) × (at < v.next.at.0) × (v.next.at.0 ≤ length s)
    × HeldKeys 0 0 (k ∷ ks) text marks × (key_sizes (k ∷ ks) + at ≤ v.next.at.0)
    × ((value_at : Values) (nesting items : ℕ) → allowed ≡ allowed_keys nesting items
    → keyed value_at s nesting at items ≡ valued value_at nesting v.next.at.0 (items + v.count) k ks)
Paths s at allowed text marks (Err e) =
    (x : Refusal)
    × ((value_at : Values) (nesting items : ℕ) → allowed ≡ allowed_keys nesting items → keyed value_at s nesting at items ≡ refused x)
    × (e.number ≡ number_of x) × (e.place.0 ≡ place_of x)

pub record PathIs (s : List ℕ) (at allowed : ℕ) (text marks text' marks' : List ℕ) (r : Result KeyRead Refused) : Type 0 where
  pub is : Paths s at allowed text' marks' r
  pub same_text : length text' ≡ length text
  pub same-marks : length marks' ≡ length marks

-- ---- all of it

-- how many nestings more a value in the field's container may open, and how many items there are so far
pub record KeyAsked (s : List ℕ) (at left items : ℕ) (text marks : List ℕ) : Type 0 where
  pub short : length s ≤ max_document
  pub inside : at ≤ length s
  pub deep : left ≤ nesting_in_root
  pub many : items ≤ max_items
  pub room : length s ≤ length text + at
  pub marks-room : marks_room ≤ length marks

-- the keys and the place of the value, with which the rules' field goes on; or its refusal
abbrev pub Keys : List ℕ → ℕ → ℕ → ℕ → List ℕ → List ℕ → Result KeyRead Refused → Type 0
Keys s left at items text marks (Ok v) =
    (k : Key) × (ks : List Key) × (v.count ≡ suc (length ks)) × (v.count ≤ max_path) × (items + v.count ≤ max_items) × (v.count ≤ left + 1)
    × (at < v.next.at.0) × (v.next.at.0 ≤ length s)
    × HeldKeys 0 0 (k ∷ ks) text marks × (key_sizes (k ∷ ks) + at ≤ v.next.at.0)
    × ((value_at : ℕ → ℕ → ℕ → Read Node) → field_at value_at s (max_nesting - left) at items
    ≡ read_then (value_at (max_nesting - left + length ks) v.next.at.0 (items + v.count)) (λ node end items₂.
    got (record { key = k; value = inside ks node }) end items₂))
Keys s left at items text marks (Err e) =
    (x : Refusal) × ((value_at : ℕ → ℕ → ℕ → Read Node) → field_at value_at s (max_nesting - left) at items ≡ refused x)
    × (e.number ≡ number_of x) × (e.place.0 ≡ place_of x)

pub record KeyIs (s : List ℕ) (left at items : ℕ) (text marks text' marks' : List ℕ) (r : Result KeyRead Refused) : Type 0 where
  pub is : Keys s left at items text' marks' r
  pub same_text : length text' ≡ length text
  pub same-marks : length marks' ≡ length marks
