-- What the readers of array, object and value promise: what the rules read, and that the table and the text part hold it.
use Rattle.std.specs.Prelude.{Result, Ok, Err, Some, None, ◌≡◌, ℕ, suc, ◌+◌, ◌*◌, ◌-◌, ◌≤◌, ◌<◌, List, ◌∷◌, length}
use Rattle.std.specs.declared.option.Option.{Option}
use Rattle.std.proofs.Math.Option.{none, some}
use Rattle.std.proofs.Math.Seq.{slice}
use Rattle.rules.specs.Sizes.{max_document, max_nesting, max_items, max_path}
use Rattle.rules.specs.Bytes.{Text}
use Rattle.rules.specs.Refusals.{Read, got, read_then, keep_items}
use Rattle.rules.specs.Pieces.{scalar_text}
use Rattle.rules.specs.Tree.{Key, Node, simple, array, object, unresolved, Elements, no-elements, element, Fields, no_fields, field, no_pieces}
use Rattle.rules.specs.Reading.{Start, start_of, Part, node, substitution, with_part, count_item, piece_at, FieldRead, inside, element_at, field_at, array_at, object_at, parted, value_in}
use Rattle.text_chars.specs.declared.Cursor.{Cursor}
use Rattle.text_chars.specs.declared.Refusal.{Refusal}
use Rattle.doc_items.specs.Codes.{width, string_item, unresolved_item, optional_item, as_piece}
use Rattle.doc_items.specs.Room.{number_bound}
use Rattle.doc_items.specs.Holds.{Spells, ReferenceAt, Shown, ElementsAt, FieldsAt, PiecesAt}
use Rattle.doc_items.specs.Parts.{numbers, letters}
use Rattle.doc_items.specs.Keys.{HeldKeys, key_sizes}
use Rattle.read_values.specs.Runs.{KindIs, AddIs}
use Rattle.read_values.specs.declared.Run.{Run}
use Rattle.read_grammar.specs.Limits.Limits.{nesting_of}
use Rattle.read_values.specs.Pieces.Pieces.{Refuses}
use Rattle.read_values.specs.declared.pieces.Listed.{Listed}
use Rattle.read_values.specs.declared.pieces.Valued.{Valued}
use Rattle.read_values.specs.declared.pieces.PieceItem.{PieceItem}
use Rattle.read_values.specs.declared.pieces.ValueStep.{ValueStep}

-- how many nestings may still be opened inside the root's
abbrev pub nesting_in_root : ℕ
nesting_in_root = max_nesting - 1

-- how many numbers mark the elements of a path: an end and a place each, and those of the first element that is too many
abbrev pub marks_room : ℕ
marks_room = 2 * (max_path + 1)

-- while a document is read its unresolved values have no numbers
abbrev pub Free : ℕ → ℕ → Type 0
Free m b = Unit {0}

-- what a reader is lent: the text part begins at twice the reading place; the table has room for all items that may come
pub record Asked (s : List ℕ) (at left items : ℕ) (table text : List ℕ) : Type 0 where
  pub short : length s ≤ max_document
  pub inside : at ≤ length s
  pub nested : left ≤ nesting_in_root
  pub few : items ≤ max_items
  pub table-room : width * (max_items + 1) ≤ length table + width * items
  pub text-room : 2 * length s ≤ length text + 2 * at

-- how far a reading went, and how many items it counted
pub record Reached (s : List ℕ) (at items end n : ℕ) : Type 0 where
  pub forward : at ≤ end
  pub inside : end ≤ length s
  pub more : items ≤ n
  pub few : n ≤ max_items

-- a member with what parts it from the next
abbrev pub parted_after : {A : Type 0} → ℕ → List ℕ → Read A → Read A
parted_after closing s m = read_then m (λ a end n. read_then (keep_items n (parted closing s end)) (λ p after k. got a after k))

module _ (s : List ℕ) (at left items : ℕ) where
  -- ---- lists

  module _ (table text : List ℕ) where
    abbrev pub Array : Result Listed Refusal → Type 0
    Array (Ok v) =
        (es : Elements) × (array_at (value_in s) s (nesting_of left) at items ≡ got es v.next.at.0 v.items) × Reached s at items v.next.at.0 v.items
        × ElementsAt (numbers table) (letters (2 * at) text) (2 * at) (2 * v.next.at.0) Free 0 (v.items - items) es
    Array (Err e) = Refuses (array_at (value_in s) s (nesting_of left) at items) e.number e.place

    abbrev pub Object : ℕ → Result Listed Refusal → Type 0
    Object closing (Ok v) =
        (fs : Fields) × (object_at (value_in s) closing s (nesting_of left) at items ≡ got fs v.next.at.0 v.items) × Reached s at items v.next.at.0 v.items
        × FieldsAt (numbers table) (letters (2 * at) text) (2 * at) (2 * v.next.at.0) Free 0 (v.items - items) fs
    Object closing (Err e) = Refuses (object_at (value_in s) closing s (nesting_of left) at items) e.number e.place

    -- ---- members, each with what parts it from the next

    abbrev pub AnElement : Result Listed Refusal → Type 0
    AnElement (Ok v) =
        (nd : Node) × (parted_after 93 s (element_at (value_in s) s (nesting_of left) at items) ≡ got nd v.next.at.0 v.items)
        × Reached s (suc at) items v.next.at.0 v.items
        × ElementsAt (numbers table) (letters (2 * at) text) (2 * at) (2 * v.next.at.0) Free 0 (v.items - items) (element nd no-elements)
    AnElement (Err e) = Refuses (parted_after 93 s (element_at (value_in s) s (nesting_of left) at items)) e.number e.place

    abbrev pub AField : ℕ → Result Listed Refusal → Type 0
    AField closing (Ok v) =
        (m : FieldRead) × (parted_after closing s (field_at (value_in s) s (nesting_of left) at items) ≡ got m v.next.at.0 v.items)
        × Reached s (suc at) items v.next.at.0 v.items
        × FieldsAt (numbers table) (letters (2 * at) text) (2 * at) (2 * v.next.at.0) Free 0 (v.items - items) (field m.key m.value no_fields)
    AField closing (Err e) = Refuses (parted_after closing s (field_at (value_in s) s (nesting_of left) at items)) e.number e.place

    -- ---- values

    abbrev pub Value : Result Valued Refusal → Type 0
    Value (Ok v) =
        (nd : Node) × (value_in s (nesting_of left) at items ≡ got nd v.next.at.0 v.items) × Reached s (suc at) items v.next.at.0 v.items
        × (v.kind ≤ unresolved_item) × (v.text.0 < number_bound) × (v.size.0 < number_bound)
        × Shown (numbers table) (letters (2 * at) text) (2 * at) (2 * v.next.at.0) Free 0 v.kind v.text.0 v.size.0 0 0 (v.items - items) nd
    Value (Err e) = Refuses (value_in s (nesting_of left) at items) e.number e.place

pub record ArrayIs (s : List ℕ) (at left items : ℕ) (table text table' text' : List ℕ) (r : Result Listed Refusal) : Type 0 where
  pub is : Array s at left items table' text' r
  pub kept_table : length table' ≡ length table
  pub kept-text : length text' ≡ length text

pub record ObjectIs (closing : ℕ) (s : List ℕ) (at left items : ℕ) (table text table' text' : List ℕ) (r : Result Listed Refusal) : Type 0 where
  pub is : Object s at left items table' text' closing r
  pub kept_table : length table' ≡ length table
  pub kept-text : length text' ≡ length text

pub record ElementIs (s : List ℕ) (at left items : ℕ) (table text table' text' : List ℕ) (r : Result Listed Refusal) : Type 0 where
  pub is : AnElement s at left items table' text' r
  pub kept_table : length table' ≡ length table
  pub kept-text : length text' ≡ length text

pub record FieldIs (closing : ℕ) (s : List ℕ) (at left items : ℕ) (table text table' text' : List ℕ) (r : Result Listed Refusal) : Type 0 where
  pub is : AField s at left items table' text' closing r
  pub kept_table : length table' ≡ length table
  pub kept-text : length text' ≡ length text

pub record ValueIs (s : List ℕ) (at left items : ℕ) (table text table' text' : List ℕ) (r : Result Valued Refusal) : Type 0 where
  pub is : Value s at left items table' text' r
  pub kept_table : length table' ≡ length table
  pub kept-text : length text' ≡ length text

-- ---- a field whose key was read

pub record FieldValueAsked (s : List ℕ) (there at left items count : ℕ) (marks table text : List ℕ) : Type 0 where
  pub key : Key
  pub keys : List Key
  pub held : HeldKeys 0 0 (key ∷ keys) text marks
  pub counted : count ≡ suc (length keys)
  pub few : count ≤ max_path
  pub items-few : items + count ≤ max_items
  pub nested : left ≤ nesting_in_root
  pub deep : count ≤ left + 1
  pub short : length s ≤ max_document
  pub forward : at < there
  pub inside : there ≤ length s
  pub sizes : key_sizes (key ∷ keys) + at ≤ there
  pub marks-room : marks_room ≤ length marks
  pub table-room : width * (max_items + 1) ≤ length table + width * items
  pub text-room : 2 * length s ≤ length text + 2 * at

-- the rules' field with this key, by its value
abbrev pub valued : List ℕ → ℕ → ℕ → ℕ → Key → List Key → Read FieldRead
valued s nesting there items k ks =
    read_then (value_in s nesting there items) (λ node end n. got (record { key = k; value = inside ks node }) end n)

module _ (closing : ℕ) (s : List ℕ) (there at left items count : ℕ) (table text : List ℕ) (k : Key) (ks : List Key) where
  abbrev pub Keyed : Result Listed Refusal → Type 0
  Keyed (Ok v) =
      (m : FieldRead) × (parted_after closing s (valued s (nesting_of (left + 1 - count)) there (items + count) k ks) ≡ got m v.next.at.0 v.items)
      × Reached s (suc at) items v.next.at.0 v.items
      × FieldsAt (numbers table) (letters (2 * at) text) (2 * at) (2 * v.next.at.0) Free 0 (v.items - items) (field m.key m.value no_fields)
  Keyed (Err e) = Refuses (parted_after closing s (valued s (nesting_of (left + 1 - count)) there (items + count) k ks)) e.number e.place

pub record FieldValueIs (closing : ℕ) (s : List ℕ) (there at left items count : ℕ) (marks table text table' text' : List ℕ) (r : Result Listed Refusal)
    : Type 0 where
  pub is : (k : Key) (ks : List Key) → HeldKeys 0 0 (k ∷ ks) text marks → count ≡ suc (length ks) → key_sizes (k ∷ ks) + at ≤ there
      → Keyed closing s there at left items count table' text' k ks r
  pub kept_table : length table' ≡ length table
  pub kept-text : length text' ≡ length text

-- ---- pieces

-- the table begins behind the piece's item, the text part at an offset that is not behind the piece
pub record PieceAsked (s : List ℕ) (at w left items : ℕ) (table text : List ℕ) : Type 0 where
  pub short : length s ≤ max_document
  pub inside : at ≤ length s
  pub nested : left ≤ nesting_in_root
  pub few : items ≤ max_items
  pub before : w ≤ 2 * at
  pub table-room : width * (max_items + 1) ≤ length table + width * (items + 1)
  pub text-room : 2 * length s ≤ length text + w

-- the item of a piece, by its numbers, with what stands inside it
abbrev pub PartAt : (ℕ → ℕ) → (ℕ → ℕ) → ℕ → ℕ → ℕ → PieceItem → ℕ → ℕ → Part → Type 0
PartAt g h lo hi at f i end (node nd) = Shown g h lo hi Free as_piece (as_piece + f.kind) f.text.0 f.size.0 f.number i end nd
PartAt g h lo hi at f i end (substitution x) =
    ReferenceAt g h lo hi Free (as_piece + f.kind) f.text.0 f.size.0 f.number x × (i ≡ end) × (x.place ≡ at)

pub record FoundIs (s : List ℕ) (at w left items : ℕ) (table text : List ℕ) (f : PieceItem) : Type 0 where
  pub start : Start
  pub starts : start_of s at ≡ some start
  pub part : Part
  pub is : count_item items at (piece_at (value_in s) s (nesting_of left) start at) ≡ got part f.next.at.0 f.items
  pub reached : Reached s (suc at) (suc items) f.next.at.0 f.items
  pub kind : KindIs f.kind part
  pub small : f.kind ≤ optional_item
  pub at-fits : f.text.0 < number_bound
  pub size_fits : f.size.0 < number_bound
  pub number_fits : f.number ≤ max_path
  pub front : f.kind ≤ string_item → f.text.0 ≡ w
  pub short : f.kind ≤ string_item → f.size.0 + at ≤ f.next.at.0
  pub held : PartAt (numbers table) (letters w text) w (2 * f.next.at.0) at f 0 (f.items - items - 1) part

abbrev pub Pieced : List ℕ → ℕ → ℕ → ℕ → ℕ → List ℕ → List ℕ → Result (Option PieceItem) Refusal → Type 0
Pieced s at w left items table text (Ok (Some f)) = FoundIs s at w left items table text f
Pieced s at w left items table text (Ok None) = start_of s at ≡ none
Pieced s at w left items table text (Err e) =
    (start : Start) × (start_of s at ≡ some start) × Refuses (count_item items at (piece_at (value_in s) s (nesting_of left) start at)) e.number e.place

pub record PieceIs (s : List ℕ) (at w left items : ℕ) (table text table' text' : List ℕ) (r : Result (Option PieceItem) Refusal) : Type 0 where
  pub is : Pieced s at w left items table' text' r
  pub kept_table : length table' ≡ length table
  pub kept-text : length text' ≡ length text

pub record StepAsked (s : List ℕ) (at from used : ℕ) (run : Run) (left items : ℕ) (table text : List ℕ) : Type 0 where
  pub short : length s ≤ max_document
  pub inside : at ≤ length s
  pub forward : from ≤ at
  pub nested : left ≤ nesting_in_root
  pub few : items ≤ max_items
  pub before : used ≤ 2 * from
  pub counted : run.count ≤ items
  pub table-room : width * (max_items + 1) ≤ length table + width * items
  pub text-room : 2 * length s ≤ length text + used

-- the text of a simple piece follows what was used, with the whitespace before it, and is no longer than what was read
abbrev pub Follows : (ℕ → ℕ) → ℕ → ℕ → ℕ → ℕ → Text → Part → Type 0
Follows h from end used used' gap (node (simple x)) =
    (used' ≡ used + (length gap + length (scalar_text x))) × Spells h used gap × Spells h (used + length gap) (scalar_text x)
    × (length gap + length (scalar_text x) + from ≤ end)
Follows h from end used used' gap (node (array es)) = Unit {0}
Follows h from end used used' gap (node (object fs)) = Unit {0}
Follows h from end used used' gap (node (unresolved b ps)) = Unit {0}
Follows h from end used used' gap (substitution x) = Unit {0}

pub record MoreRead (s : List ℕ) (at from used : ℕ) (run : Run) (left items : ℕ) (table text : List ℕ) (c : Cursor) (n : ℕ) (longer : Run)
    (used' : ℕ) : Type 0 where
  pub start : Start
  pub starts : start_of s at ≡ some start
  pub part : Part
  pub is : count_item items at (piece_at (value_in s) s (nesting_of left) start at) ≡ got part c.at.0 n
  pub reached : Reached s (suc at) (suc items) c.at.0 n
  pub kind : ℕ
  pub kinded : KindIs kind part
  pub added : AddIs run kind at longer
  pub forward : used ≤ used'
  pub before : used' ≤ 2 * c.at.0
  pub follows : Follows (letters used text) from c.at.0 used used' (slice from at s) part
  pub held : PiecesAt (numbers table) (letters used text) used used' Free 0 (n - items) (with_part at (slice from at s) part no_pieces)

abbrev pub Stepped : List ℕ → ℕ → ℕ → ℕ → Run → ℕ → ℕ → List ℕ → List ℕ → Result (Option ValueStep) Refusal → Type 0
Stepped s at from used run left items table text (Ok (Some m)) =
    MoreRead s at from used run left items table text m.next m.items m.run m.used.0
Stepped s at from used run left items table text (Ok None) = start_of s at ≡ none
Stepped s at from used run left items table text (Err e) =
    (start : Start) × (start_of s at ≡ some start) × Refuses (count_item items at (piece_at (value_in s) s (nesting_of left) start at)) e.number e.place

pub record StepIs (s : List ℕ) (at from used : ℕ) (run : Run) (left items : ℕ) (table text table' text' : List ℕ) (r : Result (Option ValueStep) Refusal) : Type 0 where
  pub is : Stepped s at from used run left items table' text' r
  pub kept_table : length table' ≡ length table
  pub kept-text : length text' ≡ length text
