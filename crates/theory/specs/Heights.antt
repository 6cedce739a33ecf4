-- A document that was read is at most 32 containers high: a value in a container is no higher than the nestings that are left there.
use Rattle.std.specs.Prelude.{◌≡◌, refl, Bool, ◌&&◌, leb, ltb, eqb}
use Prim.Native.Nat.{ℕ, zero, suc, ◌+◌, ◌-◌, ◌≤◌, ◌<◌}
use mathlib.Core.List.{List, [], ◌∷◌}
use Rattle.std.proofs.Math.Bool.{true}
use Rattle.std.proofs.Math.Option.{Option}
use Rattle.std.proofs.Common.{arith, ltb-true}
use Rattle.std.proofs.Math.ListN.{length, get_elem?, length-map}
use Rattle.std.proofs.Math.Seq.{slice}
use Rattle.rules.specs.Sizes.{max_nesting, max_document, max_unresolved}
use Rattle.rules.specs.Bytes.{Text, byte_at}
use Rattle.rules.specs.Refusals.{Refusal, Read, got, refused, read_then, keep_items}
use Rattle.rules.specs.Utf8.{ill_formed}
use Rattle.rules.specs.Environment.{Environment, entries_of, text_of}
use Rattle.rules.specs.Characters.{after_inline, after_gap}
use Rattle.rules.specs.Paths.{starts_include, segments_at, Element, elements_of, keys_of, substitution_at}
use Rattle.rules.specs.Pieces.{simple_at}
use Rattle.rules.specs.Tree.{Scalar, Key, Node, simple, array, object, unresolved, Elements, no-elements, element, Fields, no_fields, field, Pieces, no_pieces, node_piece, substituted, Root, fields, elements, root_node, join_elements, join_fields, height_of, highest_element, highest_field, highest_piece, number_node, number_elements, number_fields, number_pieces, number_root}
use Rattle.rules.specs.Reading.{Start, brace, bracket, dollar, simple_start, start_of, Part, node, substitution, with_part, pieces_from, has_substitution, unlike, kind_of, elements_joined, fields_joined, simple_joined, joined, judge_value, the_end, parted, members_from, members_at, FieldRead, inside, fields_of, elements_from, value_place, allowed_keys, opened, field_with, field_judged, field_at, element_at, array_at, object_at, piece_at, value_from, root_at, read_root}
use Rattle.rules.specs.Unresolved.{unresolved_in}
use Rattle.rules.specs.Documents.{Document, Setting, Input, valid, limited, of_root, read_tree, read_document, with_environment, inputs}
use Rattle.theory_text.specs.Choices.{by-test, by-option, by-list}
use Rattle.theory.specs.PathsEnd.{Verdict, passes, refuses, Fitting, judge-verdict}
use Rattle.theory.specs.FirstBytes.{IfGot, not-got, gives, of-got, then-got, counted-got, IfGiven, is-given, not-given, of-given}
use Rattle.theory.specs.Reach.{Each}

-- ---- what pieces make is no higher than they are

join-elements : (h : ℕ) (es fs : Elements) → highest_element es ≤ h → highest_element fs ≤ h → highest_element (join_elements es fs) ≤ h
unfolding join_elements height_of
join-elements h no-elements fs k l = l
join-elements h (element n es) fs k l = omega (arith, join-elements h es fs (omega arith) l)

join-fields : (h : ℕ) (es fs : Fields) → highest_field es ≤ h → highest_field fs ≤ h → highest_field (join_fields es fs) ≤ h
unfolding join_fields height_of
join-fields h no_fields fs k l = l
join-fields h (field j n es) fs k l = omega (arith, join-fields h es fs (omega arith) l)

elements-joined : (h : ℕ) (ps : Pieces) → highest_piece ps ≤ suc h → highest_element (elements_joined ps) ≤ h
unfolding elements_joined height_of
elements-joined h no_pieces k = omega arith
elements-joined h (node_piece place gap (simple x) ps) k = elements-joined h ps (omega arith)
elements-joined h (node_piece place gap (array es) ps) k =
    join-elements h es (elements_joined ps) (omega arith) (elements-joined h ps (omega arith))
elements-joined h (node_piece place gap (object fs) ps) k = elements-joined h ps (omega arith)
elements-joined h (node_piece place gap (unresolved b qs) ps) k = elements-joined h ps (omega arith)
elements-joined h (substituted gap x ps) k = elements-joined h ps k

fields-joined : (h : ℕ) (ps : Pieces) → highest_piece ps ≤ suc h → highest_field (fields_joined ps) ≤ h
unfolding fields_joined height_of
fields-joined h no_pieces k = omega arith
fields-joined h (node_piece place gap (simple x) ps) k = fields-joined h ps (omega arith)
fields-joined h (node_piece place gap (array es) ps) k = fields-joined h ps (omega arith)
fields-joined h (node_piece place gap (object fs) ps) k =
    join-fields h fs (fields_joined ps) (omega arith) (fields-joined h ps (omega arith))
fields-joined h (node_piece place gap (unresolved b qs) ps) k = fields-joined h ps (omega arith)
fields-joined h (substituted gap x ps) k = fields-joined h ps k

simple-joined : (x : Scalar) (all rest : Pieces) → height_of (simple_joined x all rest) ≡ 0
unfolding simple_joined height_of
simple-joined x all no_pieces = refl
simple-joined x all (node_piece place gap n ps) = refl
simple-joined x all (substituted gap y ps) = refl

joined-low : (h place : ℕ) (gap : Text) (n : Node) (ps : Pieces) → highest_piece (node_piece place gap n ps) ≤ h
    → height_of (joined n (node_piece place gap n ps) ps) ≤ h
unfolding joined height_of
joined-low h place gap (simple x) ps k = omega (arith, simple-joined x (node_piece place gap (simple x) ps) ps)
joined-low zero place gap (array es) ps k = absurd (omega arith)
joined-low (suc h) place gap (array es) ps k = omega (arith, elements-joined h (node_piece place gap (array es) ps) k)
joined-low zero place gap (object fs) ps k = absurd (omega arith)
joined-low (suc h) place gap (object fs) ps k = omega (arith, fields-joined h (node_piece place gap (object fs) ps) k)
joined-low h place gap (unresolved b qs) ps k = omega arith

-- ---- readings of at most a height

abbrev Low : ℕ → Node → ℕ → Type 0
Low h n end = height_of n ≤ h

abbrev LowPieces : ℕ → Pieces → ℕ → Type 0
LowPieces h ps end = highest_piece ps ≤ h

abbrev LowPart : ℕ → Part → ℕ → Type 0
LowPart h (node n) end = height_of n ≤ h
LowPart h (substitution x) end = Unit {0}

judge-low : (h : ℕ) (ps : Pieces) (end items : ℕ) → highest_piece ps ≤ h → IfGot (Low h) (judge_value ps end items)
unfolding judge_value height_of
judge-low h no_pieces end items k = not-got
judge-low h (substituted gap x ps) end items k = gives k
judge-low h (node_piece place gap n ps) end items k =
    by-test (IfGot (Low h)) (has_substitution ps) (λ e. gives k) (λ e.
    by-option (IfGot (Low h)) (unlike (kind_of n) ps) (λ f. gives (joined-low h place gap n ps k)) (λ other f. not-got))

with-low : (h at : ℕ) (gap : Text) (part : Part) (ps : Pieces) (end : ℕ) → LowPart h part end → highest_piece ps ≤ h
    → highest_piece (with_part at gap part ps) ≤ h
unfolding height_of
with-low h at gap (node n) ps end k l = omega arith
with-low h at gap (substitution x) ps end k l = l

any : {A : Type 0} (m : Read A) → IfGot (λ a end. Unit {0}) m
any (got a end items) = gives tt
any (refused x) = not-got

opened-low : {A : Type 0} {Q : A → ℕ → Type 0} (n at : ℕ) (k : ℕ → Read A) → (n < 32 → IfGot Q (k (n + 1))) → IfGot Q (opened n at k)
unfolding opened
opened-low {Q} n at k h = by-test (IfGot Q) (ltb n max_nesting) (λ e. h (ltb-true n max_nesting e)) (λ e. not-got)

module _ (s : List ℕ) where
  module _ (h : ℕ) (piece_at : Start → ℕ → ℕ → Read Part)
      (piece : (start : Start) (at items : ℕ) → IfGot (LowPart h) (piece_at start at items)) where
    abbrev more : ℕ → ℕ → ℕ → Start → ℕ → Read Pieces
    more n from at start items =
        read_then (piece_at start at items) (λ part end items₁.
        read_then (pieces_from n piece_at s end (after_inline s end) items₁) (λ ps after items₂.
        got (with_part at (slice from at s) part ps) after items₂))

    pieces-low : (n from at items : ℕ) → IfGot (LowPieces h) (pieces_from n piece_at s from at items)
    unfolding pieces_from height_of
    pieces-low zero from at items = not-got
    pieces-low (suc n) from at items =
        by-option (IfGot (LowPieces h)) (start_of s at) (λ b. gives (omega arith)) (λ start b.
        counted-got items at (more n from at start) (λ items₁.
        then-got (piece start at items₁) (λ part end items₂ k.
        then-got (pieces-low n end (after_inline s end) items₂) (λ ps after items₃ l.
        gives (with-low h at (slice from at s) part ps end k l)))))

  module _ {A : Type 0} (Q : A → Type 0) (closing : ℕ) (member_at : ℕ → ℕ → Read A)
      (member : (at items : ℕ) → IfGot (λ a end. Q a) (member_at at items)) where
    members-from : (n at items : ℕ) → IfGot (λ l end. Each Q l) (members_from n closing member_at s at items)
    unfolding members_from
    members-from zero at items = not-got
    members-from (suc n) at items =
        by-test (IfGot (λ l end. Each Q l)) (eqb (byte_at s at) closing) (λ e. gives tt) (λ e.
        by-test (IfGot (λ l end. Each Q l)) (eqb (byte_at s at) the_end) (λ f. not-got) (λ f.
        then-got (member at items) (λ m end items₁ k.
        then-got (any (keep_items items₁ (parted closing s end))) (λ comma after items₂ u.
        then-got (members-from n after items₂) (λ ms last items₃ l. gives (k, l))))))

    members-each : (at items : ℕ) → IfGot (λ l end. Each Q l) (members_at closing member_at s at items)
    unfolding members_at
    members-each at items = members-from (suc (length s)) (after_gap s at) items

-- further key elements open one nesting each
inside-low : (h : ℕ) (ks : List Key) (n : Node) → length ks + height_of n ≤ h → height_of (inside ks n) ≤ h
unfolding inside height_of
inside-low h [] n k = omega arith
inside-low zero (k ∷ ks) n l = absurd (omega arith)
inside-low (suc h) (k ∷ ks) n l = omega (arith, inside-low h ks n (omega arith))

abbrev LowField : ℕ → FieldRead → Type 0
LowField h m = height_of m.value ≤ h

elements-low : (h : ℕ) (ns : List Node) → Each (λ n. height_of n ≤ h) ns → highest_element (elements_from ns) ≤ h
unfolding elements_from height_of
elements-low h [] a = omega arith
elements-low h (n ∷ ns) a = omega (arith, a.0, elements-low h ns a.1)

fields-low : (h : ℕ) (ms : List FieldRead) → Each (LowField h) ms → highest_field (fields_of ms) ≤ h
unfolding fields_of height_of
fields-low h [] a = omega arith
fields-low h (m ∷ ms) a = omega (arith, a.0, fields-low h ms a.1)

-- ---- values: the nestings left inside a container of a nesting

module _ (s : List ℕ) where
  module _ (value_at : ℕ → ℕ → ℕ → Read Node) (values : (inner place items : ℕ) → IfGot (Low (32 - inner)) (value_at inner place items)) where
    module _ (nesting : ℕ) where
      with_keys : (at items : ℕ) (ks : List Key) → nesting + length ks ≤ 33
          → IfGot (λ m end. LowField (32 - nesting) m) (field_with value_at s nesting at items ks)
      unfolding field_with
      with_keys at items [] l = not-got
      with_keys at items (k ∷ ks) l =
          then-got (any (keep_items (items + suc (length ks)) (value_place s at))) (λ p place items₁ u.
          then-got (values (nesting + length ks) place items₁) (λ n end items₂ g. gives (inside-low (32 - nesting) ks n (omega arith))))

      judged-low : (at items : ℕ) (es : List Element) {o : Option Refusal} → Verdict (Fitting (allowed_keys nesting items) es) o
          → IfGot (λ m end. LowField (32 - nesting) m) (field_judged value_at s nesting at items es o)
      unfolding field_judged
      judged-low at items es (refuses r) = not-got
      judged-low at items es (passes r) =
          let e : length (keys_of es) ≡ length es = length-map es _ in
          with_keys at items (keys_of es) (omega arith)

      field-low : (at items : ℕ) → IfGot (λ m end. LowField (32 - nesting) m) (field_at value_at s nesting at items)
      unfolding field_at
      field-low at items =
          by-test (IfGot (λ m end. LowField (32 - nesting) m)) (starts_include s at) (λ e. not-got) (λ e.
          then-got (any (keep_items items (segments_at true s at))) (λ gs end items₁ u.
          by-list (IfGot (λ m end. LowField (32 - nesting) m)) gs not-got (λ g rest.
          let es = elements_of (g ∷ rest) in
          judged-low end items₁ es (judge-verdict at (allowed_keys nesting items₁) es))))

      element-low : (at items : ℕ) → IfGot (Low (32 - nesting)) (element_at value_at s nesting at items)
      unfolding element_at
      element-low at items =
          by-option (IfGot (Low (32 - nesting))) (start_of s at) (λ b. not-got) (λ start b.
          counted-got items at (value_at nesting at) (λ items₁. values nesting at items₁))

      array-low : (at items : ℕ) → IfGot (λ es end. highest_element es ≤ 32 - nesting) (array_at value_at s nesting at items)
      unfolding array_at
      array-low at items =
          then-got (members-each s (λ n. height_of n ≤ 32 - nesting) 93 (element_at value_at s nesting) element-low at items)
          (λ ns end items₁ a. gives (elements-low (32 - nesting) ns a))

      object-low : (closing at items : ℕ) → IfGot (λ fs end. highest_field fs ≤ 32 - nesting) (object_at value_at closing s nesting at items)
      unfolding object_at
      object-low closing at items =
          then-got (members-each s (LowField (32 - nesting)) closing (field_at value_at s nesting) field-low at items)
          (λ ms end items₁ a. gives (fields-low (32 - nesting) ms a))

    piece-low : (nesting : ℕ) (start : Start) (at items : ℕ) → IfGot (LowPart (32 - nesting)) (piece_at value_at s nesting start at items)
    unfolding piece_at height_of
    piece-low nesting brace at items =
        opened-low nesting at
        (λ inner. read_then (object_at value_at 125 s inner (at + 1) items) (λ fs end items₁. got (node (object fs)) end items₁)) (λ l.
        then-got (object-low (nesting + 1) 125 (at + 1) items) (λ fs end items₁ k. gives (omega arith)))
    piece-low nesting bracket at items =
        opened-low nesting at
        (λ inner. read_then (array_at value_at s inner (at + 1) items) (λ es end items₁. got (node (array es)) end items₁)) (λ l.
        then-got (array-low (nesting + 1) (at + 1) items) (λ es end items₁ k. gives (omega arith)))
    piece-low nesting dollar at items = then-got (any (keep_items items (substitution_at s at))) (λ x end items₁ u. gives tt)
    piece-low nesting simple_start at items = then-got (any (keep_items items (simple_at s at))) (λ t end items₁ u. gives (omega arith))

  value_low : (depth nesting at items : ℕ) → IfGot (Low (32 - nesting)) (value_from depth s nesting at items)
  unfolding value_from
  value_low zero nesting at items = not-got
  value_low (suc depth) nesting at items =
      let piece = piece-low (value_from depth s) (λ m p i. value_low depth m p i) nesting in
      by-option (IfGot (Low (32 - nesting))) (start_of s at) (λ b. not-got) (λ start b.
      then-got (pieces-low s (32 - nesting) (piece_at (value_from depth s) s nesting) piece (suc (length s)) at at items) (λ ps end items₁ m.
      judge-low (32 - nesting) ps end items₁ m))

  abbrev LowRoot : Root → ℕ → Type 0
  LowRoot r end = height_of (root_node r) ≤ 32

  root-low : (nesting at items : ℕ) → 1 ≤ nesting → IfGot LowRoot (root_at s nesting at items)
  unfolding root_at height_of
  root-low nesting at items₀ l =
      let value_at = value_from max_nesting s in
      let values : (inner place items : ℕ) → IfGot (Low (32 - inner)) (value_at inner place items) = λ m p i. value_low max_nesting m p i in
      by-test (IfGot LowRoot) (eqb (byte_at s at) 123)
      (λ e. then-got (object-low value_at values nesting 125 (at + 1) items₀) (λ fs end items k. gives (omega arith)))
      (λ e. by-test (IfGot LowRoot) (eqb (byte_at s at) 91)
      (λ f. then-got (array-low value_at values nesting (at + 1) items₀) (λ es end items k. gives (omega arith)))
      (λ f. then-got (object-low value_at values nesting the_end at items₀) (λ fs end items k. gives (omega arith))))

  document-low : (nesting items : ℕ) → 1 ≤ nesting → IfGot LowRoot (read_root s nesting items)
  unfolding read_root
  document-low nesting items₀ l =
      then-got (root-low nesting (after_gap s 0) items₀ l) (λ r end items k.
      by-test (IfGot LowRoot) (ltb (after_gap s end) (length s)) (λ e. not-got) (λ e. gives k))

-- ---- numbering changes no height

mutual
  unfolding number_node height_of

  number-node : (b : ℕ) (n : Node) → height_of (number_node b n).0 ≡ height_of n
  number-node b (simple x) = refl
  number-node b (array es) = omega (arith, number-elements b es)
  number-node b (object fs) = omega (arith, number-fields b fs)
  number-node b (unresolved _ ps) = number-pieces (suc b) ps

  number-elements : (b : ℕ) (es : Elements) → highest_element (number_elements b es).0 ≡ highest_element es
  number-elements b no-elements = refl
  number-elements b (element n es) = omega (arith, number-node b n, number-elements (number_node b n).1 es)

  number-fields : (b : ℕ) (fs : Fields) → highest_field (number_fields b fs).0 ≡ highest_field fs
  number-fields b no_fields = refl
  number-fields b (field k n fs) = omega (arith, number-node b n, number-fields (number_node b n).1 fs)

  number-pieces : (b : ℕ) (ps : Pieces) → highest_piece (number_pieces b ps).0 ≡ highest_piece ps
  number-pieces b no_pieces = refl
  number-pieces b (node_piece place gap n ps) = omega (arith, number-node b n, number-pieces (number_node b n).1 ps)
  number-pieces b (substituted gap x ps) = number-pieces b ps

number-root : (r : Root) → height_of (root_node (number_root r)) ≡ height_of (root_node r)
unfolding number_node height_of
number-root (fields fs) = omega (arith, number-fields 0 fs)
number-root (elements es) = omega (arith, number-elements 0 es)

-- ---- documents and settings

abbrev Nested : Document → Type 0
Nested d = height_of (root_node d.root) ≤ 32

root-given : {m : Read Root} → IfGot (λ r end. height_of (root_node r) ≤ 32) m → IfGiven Nested (of_root m)
unfolding of_root limited
root-given {m = got r end items} h =
    by-option (IfGiven Nested) (get_elem? (unresolved_in (number_root r)) max_unresolved)
    (λ e. is-given (omega (arith, number-root r, of-got h))) (λ u e. not-given)
root-given {m = refused x} h = not-given

document-given : (s : List ℕ) → IfGiven Nested (read_document s)
unfolding read_document read_tree of_root
document-given s =
    by-option (λ m. IfGiven Nested (of_root m)) (ill_formed s) (λ e. root-given (document-low s 1 0 (omega arith))) (λ place e. not-given)

pub document-height : (s : List ℕ) (d : Document) → read_document s ≡ valid d → height_of (root_node d.root) ≤ 32
document-height s d e = of-given (rw e at (document-given s))

abbrev NestedSetting : Setting → Type 0
NestedSetting x = height_of (root_node x.document.root) ≤ 32

setting-given : (env : Environment) {m : Input Document} → IfGiven Nested m → IfGiven NestedSetting (with_environment env m)
setting-given env (is-given h) = is-given h
setting-given env not-given = not-given

inputs-given : (others : Bool) (document environment : List ℕ) → IfGiven NestedSetting (inputs others document environment)
unfolding inputs
inputs-given others document environment =
    by-test (IfGiven NestedSetting) (others && leb (length document) max_document)
    (λ e. by-option (IfGiven NestedSetting) (entries_of environment) (λ f. not-given) (λ es f.
    setting-given (text_of es) (document-given document)))
    (λ e. not-given)

pub setting-height : (others : Bool) (document environment : List ℕ) (x : Setting) → inputs others document environment ≡ valid x
    → height_of (root_node x.document.root) ≤ 32
setting-height others document environment x e = of-given (rw e at (inputs-given others document environment))
