-- Any fuel that is enough reads the same. So a value is read by an equation in which no depth is counted, and a list goes on with any fuel.
use Rattle.std.specs.Prelude.{◌≡◌, ltb, eqb}
use Rattle.std.proofs.Math.Path.{refl}
use Rattle.std.proofs.Common.{◌∙◌, ap, arith, ltb-true}
use Prim.Native.Nat.{ℕ, zero, suc, ◌+◌, ◌-◌, ◌≤◌, ◌<◌}
use Rattle.std.proofs.Math.Bool.{true}
use mathlib.Core.List.{List, [], ◌∷◌}
use Rattle.std.proofs.Math.Option.{Option, none, some}
use Rattle.std.proofs.Math.ListN.{length, length-map}
use Rattle.std.proofs.Math.Seq.{slice}
use Rattle.rules.specs.Sizes.{max_nesting, max_items}
use Rattle.rules.specs.Bytes.{byte_at}
use Rattle.rules.specs.Refusals.{Refusal, not_allowed, Read, got, refused, read_then, keep_items}
use Rattle.rules.specs.Characters.{after_inline, after_gap}
use Rattle.rules.specs.Paths.{starts_include, segments_at, Element, elements_of, keys_of}
use Rattle.rules.specs.Tree.{Key, Node, array, object, Pieces}
use Rattle.rules.specs.Reading.{Start, brace, bracket, dollar, simple_start, start_of, Part, node, with_part, count_item, pieces_from, judge_value, the_end, parted, members_from, members_at, FieldRead, value_place, allowed_keys, opened, field_with, field_judged, field_at, element_at, array_at, object_at, piece_at, value_from, value_in}
use Rattle.theory_text.specs.Choices.{same_test}
use Rattle.theory_text.specs.Places.{inline-reached}
use Rattle.theory.specs.Scanning.{From}
use Rattle.theory.specs.PathsEnd.{Verdict, passes, refuses, Fitting, judge-verdict}
use Rattle.theory.specs.PiecesEnd.{Reads, gots, begun, byte-there, parted-scans, counting-reads}
use Rattle.theory.specs.ReadingEnds.{field-reads, element-reads, piece-reads, value-reads}

-- ---- choices and readings that are equal part by part

same-option : {A X : Type 0} (o : Option A) {x y : X} {f g : A → X} → (o ≡ none → x ≡ y) → ((a : A) → o ≡ some a → f a ≡ g a)
    → ◌≡◌ {A = X} (elim o [ none ↦ x | some a ↦ f a ]) (elim o [ none ↦ y | some a ↦ g a ])
same-option none h k = h refl
same-option (some a) h k = k a refl

same-list : {A X : Type 0} (l : List A) {x y : X} {f g : A → List A → X} → x ≡ y → ((a : A) (r : List A) → f a r ≡ g a r)
    → ◌≡◌ {A = X} (elim l [ [] ↦ x | a ∷ r ↦ f a r ]) (elim l [ [] ↦ y | a ∷ r ↦ g a r ])
same-list [] h k = h
same-list (a ∷ r) h k = k a r

-- what follows is equal wherever the reading ends
pub then-on : {A B : Type 0} (m : Read A) {k k' : A → ℕ → ℕ → Read B}
    → ((a : A) (end items : ℕ) → m ≡ got a end items → k a end items ≡ k' a end items) → read_then m k ≡ read_then m k'
then-on (got a end items) h = h a end items refl
then-on (refused x) h = refl

pub then_same : {A B : Type 0} {m m' : Read A} {k k' : A → ℕ → ℕ → Read B}
    → m ≡ m' → ((a : A) (end items : ℕ) → k a end items ≡ k' a end items) → read_then m k ≡ read_then m' k'
then_same {m'} {k} e h = ap (λ r. read_then r k) e ∙ then-on m' (λ a end items f. h a end items)

module _ {A : Type 0} (n at : ℕ) (k k' : ℕ → Read A) where
  counted_same : ((items : ℕ) → k items ≡ k' items) → count_item n at k ≡ count_item n at k'
  unfolding count_item
  counted_same h = same_test (ltb n max_items) (λ e. h (n + 1)) (λ e. refl)

  opened-same : (n < max_nesting → k (n + 1) ≡ k' (n + 1)) → opened n at k ≡ opened n at k'
  unfolding opened
  opened-same h = same_test (ltb n max_nesting) (λ e. h (ltb-true n max_nesting e)) (λ e. refl)

-- ---- lists of equal members and of equal pieces

module _ (s : List ℕ) where
  module _ {A : Type 0} (closing : ℕ) (member_at member_at' : ℕ → ℕ → Read A) (same : (at items : ℕ) → member_at at items ≡ member_at' at items) where
    pub members-same : (n at items : ℕ) → members_from n closing member_at s at items ≡ members_from n closing member_at' s at items
    unfolding members_from
    members-same zero at items = refl
    members-same (suc n) at items =
        same_test (eqb (byte_at s at) closing) (λ e. refl) (λ e.
        same_test (eqb (byte_at s at) the_end) (λ f. refl) (λ f.
        then_same (same at items) (λ m end items₁.
        then-on (keep_items items₁ (parted closing s end)) (λ comma after items₂ g.
        then_same (members-same n after items₂) (λ ms last items₃. refl)))))

    members-at-same : (at items : ℕ) → members_at closing member_at s at items ≡ members_at closing member_at' s at items
    unfolding members_at
    members-at-same at items = members-same (suc (length s)) (after_gap s at) items

  -- a piece and what follows it
  abbrev more : (Start → ℕ → ℕ → Read Part) → ℕ → ℕ → ℕ → Start → ℕ → Read Pieces
  more piece_at n from at start items =
      read_then (piece_at start at items) (λ part end items₁.
      read_then (pieces_from n piece_at s end (after_inline s end) items₁) (λ ps after items₂.
      got (with_part at (slice from at s) part ps) after items₂))

  module _ (piece_at piece_at' : Start → ℕ → ℕ → Read Part)
      (same : (start : Start) (at items : ℕ) → piece_at start at items ≡ piece_at' start at items) where
    pub pieces-same : (n from at items : ℕ) → pieces_from n piece_at s from at items ≡ pieces_from n piece_at' s from at items
    unfolding pieces_from
    pieces-same zero from at items = refl
    pieces-same (suc n) from at items =
        same-option (start_of s at) (λ b. refl) (λ start b.
        counted_same items at (more piece_at n from at start) (more piece_at' n from at start) (λ items₁.
        then_same (same start at items₁) (λ part end items₂.
        then_same (pieces-same n end (after_inline s end) items₂) (λ ps after items₃. refl))))

-- ---- the depth of values

module _ (s : List ℕ) where
  -- where the values inside a container are equal
  module _ (value_at value_at' : ℕ → ℕ → ℕ → Read Node) (nesting : ℕ)
      (values : (inner place items : ℕ) → nesting ≤ inner → inner ≤ max_nesting → value_at inner place items ≡ value_at' inner place items) where
    with-same : (at items : ℕ) (ks : List Key) → nesting + length ks ≤ suc max_nesting
        → field_with value_at s nesting at items ks ≡ field_with value_at' s nesting at items ks
    unfolding field_with
    with-same at items [] l = refl
    with-same at items (k ∷ ks) l =
        then-on (keep_items (items + suc (length ks)) (value_place s at)) (λ p place items₁ f.
        then_same (values (nesting + length ks) place items₁ (omega arith) (omega arith)) (λ n end items₂. refl))

    judged-same : (at items : ℕ) (es : List Element) {o : Option Refusal} → Verdict (Fitting (allowed_keys nesting items) es) o
        → field_judged value_at s nesting at items es o ≡ field_judged value_at' s nesting at items es o
    unfolding field_judged
    judged-same at items es (refuses h) = refl
    judged-same at items es (passes h) =
        let e : length (keys_of es) ≡ length es = length-map es _ in
        with-same at items (keys_of es) (omega arith)

    field-same : (at items : ℕ) → field_at value_at s nesting at items ≡ field_at value_at' s nesting at items
    unfolding field_at
    field-same at items =
        same_test (starts_include s at) (λ e. refl) (λ e.
        then-on (keep_items items (segments_at true s at)) (λ gs end items₁ h.
        same-list gs refl (λ g rest.
        let es = elements_of (g ∷ rest) in
        judged-same end items₁ es (judge-verdict at (allowed_keys nesting items₁) es))))

    object-same : (closing at items : ℕ) → object_at value_at closing s nesting at items ≡ object_at value_at' closing s nesting at items
    unfolding object_at
    object-same closing at items =
        then_same (members-at-same s closing (field_at value_at s nesting) (field_at value_at' s nesting) field-same at items)
        (λ ms end items₁. refl)

    module _ (nested : nesting ≤ max_nesting) where
      element-same : (at items : ℕ) → element_at value_at s nesting at items ≡ element_at value_at' s nesting at items
      unfolding element_at
      element-same at items =
          same-option (start_of s at) (λ b. refl) (λ start b.
          counted_same items at (value_at nesting at) (value_at' nesting at) (λ items₁. values nesting at items₁ (omega arith) nested))

      array_same : (at items : ℕ) → array_at value_at s nesting at items ≡ array_at value_at' s nesting at items
      unfolding array_at
      array_same at items =
          then_same (members-at-same s 93 (element_at value_at s nesting) (element_at value_at' s nesting) element-same at items)
          (λ ns end items₁. refl)

  -- a piece that opens a nesting
  abbrev object_piece : (ℕ → ℕ → ℕ → Read Node) → ℕ → ℕ → ℕ → Read Part
  object_piece value_at at items inner =
      read_then (object_at value_at 125 s inner (at + 1) items) (λ fs end items₁. got (node (object fs)) end items₁)

  abbrev array_piece : (ℕ → ℕ → ℕ → Read Node) → ℕ → ℕ → ℕ → Read Part
  array_piece value_at at items inner =
      read_then (array_at value_at s inner (at + 1) items) (λ es end items₁. got (node (array es)) end items₁)

  module _ (value_at value_at' : ℕ → ℕ → ℕ → Read Node) (nesting : ℕ)
      (values : (inner place items : ℕ) → nesting < inner → inner ≤ max_nesting → value_at inner place items ≡ value_at' inner place items) where
    piece-same : (start : Start) (at items : ℕ) → piece_at value_at s nesting start at items ≡ piece_at value_at' s nesting start at items
    unfolding piece_at
    piece-same brace at items =
        opened-same nesting at (object_piece value_at at items) (object_piece value_at' at items) (λ h.
        then_same (object-same value_at value_at' (nesting + 1) (λ m p i k l. values m p i (omega arith) l) 125 (at + 1) items)
        (λ fs end items₁. refl))
    piece-same bracket at items =
        opened-same nesting at (array_piece value_at at items) (array_piece value_at' at items) (λ h.
        then_same (array_same value_at value_at' (nesting + 1) (λ m p i k l. values m p i (omega arith) l) (omega arith) (at + 1) items)
        (λ es end items₁. refl))
    piece-same dollar at items = refl
    piece-same simple_start at items = refl

  pub value-depth : (d e nesting at items : ℕ) → max_nesting < d + nesting → max_nesting < e + nesting → nesting ≤ max_nesting
      → value_from d s nesting at items ≡ value_from e s nesting at items
  unfolding value_from
  value-depth zero e nesting at items h k l = absurd (omega arith)
  value-depth (suc d) zero nesting at items h k l = absurd (omega arith)
  value-depth (suc d) (suc e) nesting at items h k l =
      let piece =
      piece-same (value_from d s) (value_from e s) nesting (λ m p i more nested. value-depth d e m p i (omega arith) (omega arith) nested) in
      same-option (start_of s at) (λ b. refl) (λ start b.
      then_same (pieces-same s (piece_at (value_from d s) s nesting) (piece_at (value_from e s) s nesting) piece (suc (length s)) at at items)
      (λ ps end items₁. refl))

module _ (s : List ℕ) (nesting at items : ℕ) (some-nesting : 1 ≤ nesting) (nested : nesting ≤ max_nesting) where
  pub value-step : value_in s nesting at items
      ≡ elim (start_of s at) [
        | none ↦ refused (not_allowed s at)
        | some start ↦ read_then (pieces_from (suc (length s)) (piece_at (value_in s) s nesting) s at at items) judge_value
      ]
  unfolding value_from
  value-step = value-depth s max_nesting (suc max_nesting) nesting at items (omega arith) (omega arith) nested

  pub value-nothing : start_of s at ≡ none → value_in s nesting at items ≡ refused (not_allowed s at)
  value-nothing e = value-step ∙ rw e refl

  pub value-pieces : (start : Start) → start_of s at ≡ some start
      → value_in s nesting at items ≡ read_then (pieces_from (suc (length s)) (piece_at (value_in s) s nesting) s at at items) judge_value
  value-pieces start e = value-step ∙ rw e refl

-- ---- the fuel of lists

of-got : {A : Type 0} {Q : A → ℕ → Type 0} {a : A} {end items : ℕ} → Reads Q (got a end items) → Q a end
of-got (gots h) = h

-- what is read goes forward, said of each result
pub forward-from : {A : Type 0} {at : ℕ} {m : Read A} → Reads (From (suc at)) m → (a : A) (end items : ℕ) → m ≡ got a end items → at < end
forward-from {at} h a end items e = of-got {Q = From (suc at)} (rw e at h)

module _ (s : List ℕ) where
  module _ {A : Type 0} (closing : ℕ) (member_at : ℕ → ℕ → Read A)
      (forward : (at items : ℕ) (a : A) (end n : ℕ) → member_at at items ≡ got a end n → at < end) where
    -- any two fuels above the bytes left
    pub members-left : (n m at items : ℕ) → length s - at < n → length s - at < m
        → members_from n closing member_at s at items ≡ members_from m closing member_at s at items
    unfolding members_from
    members-left zero m at items h k = absurd (omega arith)
    members-left (suc n) zero at items h k = absurd (omega arith)
    members-left (suc n) (suc m) at items h k =
        same_test (eqb (byte_at s at) closing) (λ e. refl) (λ e.
        same_test (eqb (byte_at s at) the_end) (λ f. refl) (λ f.
        let i = byte-there s at f in
        then-on (member_at at items) (λ a end items₁ g.
        let o = forward at items a end items₁ g in
        then-on (keep_items items₁ (parted closing s end)) (λ comma after items₂ c.
        let p : end ≤ after = of-got {Q = From end} (rw c at (counting-reads items₁ (parted-scans s closing end))) in
        then_same (members-left n m after items₂ (omega arith) (omega arith)) (λ ms last items₃. refl)))))

    pub members-fuel : (n m at items : ℕ) → at ≤ length s → length s < n + at → length s < m + at
        → members_from n closing member_at s at items ≡ members_from m closing member_at s at items
    members-fuel n m at items l h k = members-left n m at items (omega arith) (omega arith)

  module _ (piece_at : Start → ℕ → ℕ → Read Part)
      (forward : (start : Start) (at items : ℕ) → start_of s at ≡ some start → (part : Part) (end n : ℕ)
      → piece_at start at items ≡ got part end n → at < end) where
    pub pieces-left : (n m from at items : ℕ) → length s - at < n → length s - at < m
        → pieces_from n piece_at s from at items ≡ pieces_from m piece_at s from at items
    unfolding pieces_from
    pieces-left zero m from at items h k = absurd (omega arith)
    pieces-left (suc n) zero from at items h k = absurd (omega arith)
    pieces-left (suc n) (suc m) from at items h k =
        same-option (start_of s at) (λ b. refl) (λ start b.
        let i = (begun s at start b).0 in
        counted_same items at (more s piece_at n from at start) (more s piece_at m from at start) (λ items₁.
        then-on (piece_at start at items₁) (λ part end items₂ g.
        let o = forward start at items₁ b part end items₂ g in
        let p = (inline-reached s end).0 in
        then_same (pieces-left n m end (after_inline s end) items₂ (omega arith) (omega arith)) (λ ps after items₃. refl))))

    pub pieces-fuel : (n m from at items : ℕ) → at ≤ length s → length s < n + at → length s < m + at
        → pieces_from n piece_at s from at items ≡ pieces_from m piece_at s from at items
    pieces-fuel n m from at items l h k = pieces-left n m from at items (omega arith) (omega arith)

-- ---- values, fields, elements and pieces go forward

module _ (s : List ℕ) (nesting : ℕ) where
  module _ (some-nesting : 1 ≤ nesting) where
    values-read : (inner place items : ℕ) → nesting ≤ inner → inner ≤ max_nesting → Reads (From (suc place)) (value_in s inner place items)
    values-read inner place items h l = value-reads s max_nesting inner place items (omega arith) l

    pub field-forward : (at items : ℕ) (a : FieldRead) (end n : ℕ) → field_at (value_in s) s nesting at items ≡ got a end n → at < end
    field-forward at items = forward-from (field-reads s (value_in s) nesting values-read at items)

    module _ (nested : nesting ≤ max_nesting) where
      pub value-forward : (at items : ℕ) (a : Node) (end n : ℕ) → value_in s nesting at items ≡ got a end n → at < end
      value-forward at items = forward-from (values-read nesting at items (omega arith) nested)

      pub element-forward : (at items : ℕ) (a : Node) (end n : ℕ) → element_at (value_in s) s nesting at items ≡ got a end n → at < end
      element-forward at items = forward-from (element-reads s (value_in s) nesting values-read nested at items)

  pub piece-forward : (start : Start) (at items : ℕ) → start_of s at ≡ some start → (part : Part) (end n : ℕ)
      → piece_at (value_in s) s nesting start at items ≡ got part end n → at < end
  piece-forward start at items b =
      forward-from
      (piece-reads s (value_in s) nesting (λ m p i k l. value-reads s max_nesting m p i (omega arith) l) start at items b)
