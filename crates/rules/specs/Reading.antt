-- Document 01, "Reading": values, arrays, objects and the whole document, with every refusal's number, place and order.
use Prim.Native.Nat.{ℕ, zero, suc, ◌+◌, ◌-◌, min}
use mathlib.Core.List.{List, [], ◌∷◌, ◌++◌}
use Rattle.std.specs.Prelude.{Bool, ◌||◌, ltb, eqb}
use Rattle.std.proofs.Math.Bool.{true, false}
use Rattle.std.proofs.Math.Option.{Option, none, some}
use Rattle.std.proofs.Math.ListN.{length}
use Rattle.std.proofs.Math.Seq.{slice}
use Rattle.rules.specs.Sizes.{max_nesting, max_items, max_path}
use Rattle.rules.specs.Bytes.{Text, no_byte, byte_at}
use Rattle.rules.specs.Ascii as ascii
use Rattle.rules.specs.Refusals.{Refusal, placed, spent, ended, not_allowed, Scan, ok, refused, Read, got, read_then, keep_items}
use Rattle.rules.specs.Characters.{after_inline, gap_at, after_gap}
use Rattle.rules.specs.Pieces.{starts_simple, simple_at, scalar_text}
use Rattle.rules.specs.Paths.{starts_include, segments_at, Element, elements_of, judge, keys_of, substitution_at}
use Rattle.rules.specs.Tree.{Scalar, string, Key, Substitution, Node, simple, array, object, unresolved, Elements, no-elements, element, Fields, no_fields, field, Pieces, no_pieces, node_piece, substituted, Root, fields, elements, join_elements, join_fields}

-- ---- pieces

-- what begins at a place of a value: "a `$` without `{`" starts no piece
pub data Start : Type 0 where
  brace bracket dollar simple_start : Start

unfoldable pub start_of : (s : List ℕ) (at : ℕ) → Option Start
unfolding starts_simple
start_of s at =
    let b = byte_at s at in
    elim (eqb b ascii.open_brace) [
      | true ↦ some brace
      | false ↦ elim (eqb b ascii.open_bracket) [
        | true ↦ some bracket
        | false ↦ elim (eqb b ascii.dollar) [
          | true ↦ elim (eqb (byte_at s (at + 1)) ascii.open_brace) [ true ↦ some dollar | false ↦ none ]
          | false ↦ elim (starts_simple s at) [ true ↦ some simple_start | false ↦ none ]
        ]
      ]
    ]

-- what a piece is
pub data Part : Type 0 where
  node : Node → Part
  substitution : Substitution → Part

abbrev pub with_part : (place : ℕ) (gap : Text) (part : Part) (ps : Pieces) → Pieces
with_part place gap (node n) ps = node_piece place gap n ps
with_part place gap (substitution x) ps = substituted gap x ps

-- "A piece is counted before it is read"; an item more at a place, or number 8 there
unfoldable pub count_item : {A : Type 0} (items at : ℕ) (k : (items : ℕ) → Read A) → Read A
count_item items at k = elim (ltb items max_items) [ true ↦ k (items + 1) | false ↦ refused (placed 8 at) ]

-- "A value is one or more pieces with no newline between. Whitespace between simple pieces is kept, outer whitespace dropped."
-- The pieces from a place on; `from` is the end of the piece before.
unfoldable pub pieces_from : (fuel : ℕ) (piece_at : (start : Start) (at items : ℕ) → Read Part) (s : List ℕ) (from at items : ℕ) → Read Pieces
unfolding start_of count_item after_inline
pieces_from zero piece_at s from at items = refused spent
pieces_from (suc n) piece_at s from at items =
    elim (start_of s at) [
      | none ↦ got no_pieces at items
      | some start ↦
          count_item items at (λ items₁.
          read_then (piece_at start at items₁) (λ part end items₂.
          read_then (pieces_from n piece_at s end (after_inline s end) items₂) (λ ps after items₃.
          got (with_part at (slice from at s) part ps) after items₃)))
    ]

-- ---- what pieces make

pub data Kind : Type 0 where
  simple_kind array_kind object_kind : Kind

-- of a piece, which is never unresolved itself
unfoldable pub kind_of : Node → Kind
kind_of (simple x) = simple_kind
kind_of (array es) = array_kind
kind_of (object fs) = object_kind
kind_of (unresolved b ps) = simple_kind

unfoldable pub same_kind : Kind → Kind → Bool
same_kind simple_kind simple_kind = true
same_kind simple_kind array_kind = false
same_kind simple_kind object_kind = false
same_kind array_kind simple_kind = false
same_kind array_kind array_kind = true
same_kind array_kind object_kind = false
same_kind object_kind simple_kind = false
same_kind object_kind array_kind = false
same_kind object_kind object_kind = true

unfoldable pub has_substitution : Pieces → Bool
has_substitution no_pieces = false
has_substitution (node_piece place gap n ps) = has_substitution ps
has_substitution (substituted gap x ps) = true

-- number 11: the first piece unlike the first
unfoldable pub unlike : Kind → Pieces → Option ℕ
unfolding kind_of same_kind
unlike k no_pieces = none
unlike k (node_piece place gap n ps) = elim (same_kind k (kind_of n)) [ true ↦ unlike k ps | false ↦ some place ]
unlike k (substituted gap x ps) = unlike k ps

-- the text of simple pieces, the elements of arrays, the fields of objects, all in turn
unfoldable pub text_joined : Pieces → Text
unfolding scalar_text
text_joined no_pieces = []
text_joined (node_piece place gap (simple x) ps) = gap ++ scalar_text x ++ text_joined ps
text_joined (node_piece place gap (array es) ps) = text_joined ps
text_joined (node_piece place gap (object fs) ps) = text_joined ps
text_joined (node_piece place gap (unresolved b qs) ps) = text_joined ps
text_joined (substituted gap x ps) = text_joined ps

unfoldable pub elements_joined : Pieces → Elements
unfolding join_elements
elements_joined no_pieces = no-elements
elements_joined (node_piece place gap (simple x) ps) = elements_joined ps
elements_joined (node_piece place gap (array es) ps) = join_elements es (elements_joined ps)
elements_joined (node_piece place gap (object fs) ps) = elements_joined ps
elements_joined (node_piece place gap (unresolved b qs) ps) = elements_joined ps
elements_joined (substituted gap x ps) = elements_joined ps

unfoldable pub fields_joined : Pieces → Fields
unfolding join_fields
fields_joined no_pieces = no_fields
fields_joined (node_piece place gap (simple x) ps) = fields_joined ps
fields_joined (node_piece place gap (array es) ps) = fields_joined ps
fields_joined (node_piece place gap (object fs) ps) = join_fields fs (fields_joined ps)
fields_joined (node_piece place gap (unresolved b qs) ps) = fields_joined ps
fields_joined (substituted gap x ps) = fields_joined ps

-- a simple piece alone keeps its type, several are a string
unfoldable pub simple_joined : (x : Scalar) (all rest : Pieces) → Node
unfolding text_joined
simple_joined x all no_pieces = simple x
simple_joined x all (node_piece place gap n ps) = simple (string (text_joined all))
simple_joined x all (substituted gap y ps) = simple (string (text_joined all))

-- "Without a substitution among its pieces, a value of several simple pieces is a string, of arrays their join, of objects one
-- literal with all their fields in turn."
unfoldable pub joined : (first : Node) (all rest : Pieces) → Node
unfolding simple_joined elements_joined fields_joined
joined (simple x) all rest = simple_joined x all rest
joined (array es) all rest = array (elements_joined all)
joined (object fs) all rest = object (fields_joined all)
joined (unresolved b ps) all rest = unresolved b ps

-- "A value with one is a blend"; its number is given later. Else kinds are compared: "A reading 11 is given at the end of its value";
-- "a key or value is judged before the byte that starts no further piece of it, or the end, is".
unfoldable pub judge_value : (ps : Pieces) (at items : ℕ) → Read Node
unfolding has_substitution unlike joined kind_of
judge_value no_pieces at items = refused spent
judge_value (substituted gap x ps) at items = got (unresolved 0 (substituted gap x ps)) at items
judge_value (node_piece place gap n ps) at items =
    elim (has_substitution ps) [
      | true ↦ got (unresolved 0 (node_piece place gap n ps)) at items
      | false ↦ elim (unlike (kind_of n) ps) [
        | some other ↦ refused (placed 11 other)
        | none ↦ got (joined n (node_piece place gap n ps) ps) at items
      ]
    ]

-- ---- fields and elements

-- the byte that closes an object without braces is the end
abbrev pub the_end : ℕ
the_end = no_byte

unfoldable pub after_closing : (closing at : ℕ) → ℕ
after_closing closing at = elim (eqb closing the_end) [ true ↦ at | false ↦ at + 1 ]

-- "Fields and elements are parted by one comma, or by at least one newline; one trailing comma is allowed, a leading or doubled one
-- is not": the place where the next member or the closing byte may stand
unfoldable pub parted : (closing : ℕ) (s : List ℕ) (at : ℕ) → Scan ℕ
unfolding gap_at
parted closing s at =
    let gap = gap_at s at in
    let b = byte_at s gap.place in
    elim (eqb b ascii.comma) [
      | true ↦ ok gap.place (after_gap s (gap.place + 1))
      | false ↦ elim (eqb b the_end || eqb b closing || gap.newline) [
        | true ↦ ok gap.place gap.place
        | false ↦ refused (placed 3 gap.place)
      ]
    ]

-- the members from a place on where one, or the closing byte, may stand
unfoldable pub members_from : {A : Type 0} (fuel closing : ℕ) (member_at : (at items : ℕ) → Read A) (s : List ℕ) (at items : ℕ) → Read (List A)
unfolding after_closing parted
members_from zero closing member_at s at items = refused spent
members_from (suc n) closing member_at s at items =
    elim (eqb (byte_at s at) closing) [
      | true ↦ got [] (after_closing closing at) items
      | false ↦ elim (eqb (byte_at s at) the_end) [
        | true ↦ refused (ended s)
        | false ↦
            read_then (member_at at items) (λ m end items₁.
            read_then (keep_items items₁ (parted closing s end)) (λ comma after items₂.
            read_then (members_from n closing member_at s after items₂) (λ ms last items₃.
            got (m ∷ ms) last items₃)))
      ]
    ]

unfoldable pub members_at : {A : Type 0} (closing : ℕ) (member_at : (at items : ℕ) → Read A) (s : List ℕ) (at items : ℕ) → Read (List A)
unfolding members_from gap_at
members_at closing member_at s at items = members_from (suc (length s)) closing member_at s (after_gap s at) items

-- a field that was read
pub record FieldRead : Type 0 where
  pub key : Key
  pub value : Node

-- "`a.b = 1` means `a { b = 1 }`": a value inside the objects that further key elements open
unfoldable pub inside : (ks : List Key) (n : Node) → Node
inside [] n = n
inside (k ∷ ks) n = object (field k (inside ks n) no_fields)

unfoldable pub fields_of : List FieldRead → Fields
fields_of [] = no_fields
fields_of (m ∷ ms) = field m.key m.value (fields_of ms)

unfoldable pub elements_from : List Node → Elements
elements_from [] = no-elements
elements_from (n ∷ ns) = element n (elements_from ns)

-- ---- the readers of value, array and object; `value_at nesting place items` reads a value inside a container of that nesting

-- "`:` or `=` parts key and value; before `{` it may be absent. Newlines and comments may stand between key and value."
unfoldable pub value_place : (s : List ℕ) (at : ℕ) → Scan ℕ
unfolding gap_at not_allowed
value_place s at =
    let p = after_gap s at in
    elim (eqb (byte_at s p) ascii.colon || eqb (byte_at s p) ascii.equals) [
      | true ↦ ok p (after_gap s (p + 1))
      | false ↦ elim (eqb (byte_at s p) ascii.open_brace) [ true ↦ ok p p | false ↦ refused (not_allowed s p) ]
    ]

-- "Each key element after the first opens one nesting", and each element is an item
abbrev pub allowed_keys : (nesting items : ℕ) → ℕ
allowed_keys nesting items = min max_path (min (max_items - items) (max_nesting + 1 - nesting))

-- a container's opening byte inside a given nesting: one nesting more, or number 8 there
unfoldable pub opened : {A : Type 0} (nesting at : ℕ) (k : (inner : ℕ) → Read A) → Read A
opened nesting at k = elim (ltb nesting max_nesting) [ true ↦ k (nesting + 1) | false ↦ refused (placed 8 at) ]

module _ (value_at : (nesting at items : ℕ) → Read Node) where
  -- behind a key that was judged good
  unfoldable pub field_with : (s : List ℕ) (nesting at items : ℕ) (ks : List Key) → Read FieldRead
  unfolding value_place inside
  field_with s nesting at items [] = refused spent
  field_with s nesting at items (k ∷ ks) =
      read_then (keep_items (items + suc (length ks)) (value_place s at)) (λ p place items₁.
      read_then (value_at (nesting + length ks) place items₁) (λ n end items₂.
      got (record { key = k; value = inside ks n }) end items₂))

  -- "a key or value is judged before the byte that starts no further piece of it, or the end, is"
  unfoldable pub field_judged : (s : List ℕ) (nesting at items : ℕ) (es : List Element) (verdict : Option Refusal) → Read FieldRead
  unfolding field_with
  field_judged s nesting at items es (some x) = refused x
  field_judged s nesting at items es none = field_with s nesting at items (keys_of es)

  -- "6 and a key's `$` are given at once"; "A key that starts with no piece is 3"
  unfoldable pub field_at : (s : List ℕ) (nesting at items : ℕ) → Read FieldRead
  unfolding field_judged starts_include segments_at elements_of judge
  field_at s nesting at items =
      elim (starts_include s at) [
        | true ↦ refused (placed 6 at)
        | false ↦
            read_then (keep_items items (segments_at true s at)) (λ gs end items₁.
            elim gs [
              | [] ↦ refused (placed 3 end)
              | g ∷ rest ↦
                  let es = elements_of (g ∷ rest) in
                  field_judged s nesting end items₁ es (judge at (allowed_keys nesting items₁) es)
            ])
      ]

  -- an element is counted with its first piece (docs/DECISIONS.md, R7)
  unfoldable pub element_at : (s : List ℕ) (nesting at items : ℕ) → Read Node
  unfolding count_item start_of not_allowed
  element_at s nesting at items =
      elim (start_of s at) [ none ↦ refused (not_allowed s at) | some start ↦ count_item items at (value_at nesting at) ]

  -- behind the opening byte of a container that opens the given nesting
  unfoldable pub array_at : (s : List ℕ) (nesting at items : ℕ) → Read Elements
  unfolding element_at members_at elements_from
  array_at s nesting at items =
      read_then (members_at ascii.close_bracket (element_at s nesting) s at items) (λ ns end items₁. got (elements_from ns) end items₁)

  unfoldable pub object_at : (closing : ℕ) (s : List ℕ) (nesting at items : ℕ) → Read Fields
  unfolding field_at members_at fields_of
  object_at closing s nesting at items =
      read_then (members_at closing (field_at s nesting) s at items) (λ ms end items₁. got (fields_of ms) end items₁)

  unfoldable pub piece_at : (s : List ℕ) (nesting : ℕ) (start : Start) (at items : ℕ) → Read Part
  unfolding opened array_at object_at substitution_at simple_at
  piece_at s nesting brace at items =
      opened nesting at (λ inner.
      read_then (object_at ascii.close_brace s inner (at + 1) items) (λ fs end items₁. got (node (object fs)) end items₁))
  piece_at s nesting bracket at items =
      opened nesting at (λ inner.
      read_then (array_at s inner (at + 1) items) (λ es end items₁. got (node (array es)) end items₁))
  piece_at s nesting dollar at items =
      read_then (keep_items items (substitution_at s at)) (λ x end items₁. got (substitution x) end items₁)
  piece_at s nesting simple_start at items =
      read_then (keep_items items (simple_at s at)) (λ t end items₁. got (node (simple t.scalar)) end items₁)

-- A value in a container of the given nesting. The first number is how many values may stand inside one another: at most 32, as each but
-- the last opens a nesting; so the recursion goes by it, and it is never used up (module ReadingEnds of `theory`).
unfoldable pub value_from : (depth : ℕ) (s : List ℕ) (nesting at items : ℕ) → Read Node
unfolding start_of pieces_from piece_at judge_value not_allowed
value_from zero s nesting at items = refused spent
value_from (suc depth) s nesting at items =
    elim (start_of s at) [
      | none ↦ refused (not_allowed s at)
      | some start ↦ read_then (pieces_from (suc (length s)) (piece_at (value_from depth s) s nesting) s at at items) judge_value
    ]

-- a value in a container of the given nesting: so many containers, one inside another, are enough (module ValueSteps of `theory`)
abbrev pub value_in : (s : List ℕ) (nesting at items : ℕ) → Read Node
value_in s = value_from max_nesting s

-- "Root, after whitespace and comments: `{` or `[` and its partner, then only whitespace and comments; else an object without braces,
-- possibly empty." The nesting that the root opens and the count of items go in, and the count comes out.
unfoldable pub root_at : (s : List ℕ) (nesting at items : ℕ) → Read Root
unfolding value_from array_at object_at
root_at s nesting at items =
    let value_at = value_in s in
    elim (eqb (byte_at s at) ascii.open_brace) [
      | true ↦ read_then (object_at value_at ascii.close_brace s nesting (at + 1) items) (λ fs end items₁. got (fields fs) end items₁)
      | false ↦ elim (eqb (byte_at s at) ascii.open_bracket) [
        | true ↦ read_then (array_at value_at s nesting (at + 1) items) (λ es end items₁. got (elements es) end items₁)
        | false ↦ read_then (object_at value_at the_end s nesting at items) (λ fs end items₁. got (fields fs) end items₁)
      ]
    ]

unfoldable pub read_root : (s : List ℕ) (nesting items : ℕ) → Read Root
unfolding root_at gap_at
read_root s nesting items =
    read_then (root_at s nesting (after_gap s 0) items) (λ r end items₁.
    let last = after_gap s end in
    elim (ltb last (length s)) [ true ↦ refused (placed 3 last) | false ↦ got r last items₁ ])
