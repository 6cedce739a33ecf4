-- An object or an array as the root.
use Rattle.std.specs.Prelude.{Result, Ok, Err}
use mathlib.Core.Path.{◌≡◌, refl, ◌∙◌}
use mathlib.Core.Bool.{true}
use mathlib.Core.List.{List}
use Prim.Native.Nat.{ℕ, ◌+◌, ◌*◌, ◌-◌, ◌≤◌}
use native.Mathlib.Omega.{arith}
use mir.Syntax.{w64}
use mir.Val.{Fits}
use lib.ListN.{length}
use Rattle.rules.specs.Characters.{after_gap}
use Rattle.rules.specs.Tree.{fields, elements, Fields, Elements}
use Rattle.rules.specs.Reading.{root_at}
use Rattle.text_chars.specs.declared.Cursor.{Cursor}
use Rattle.text_chars.specs.declared.Refusal.{Refusal}
use Rattle.doc_items.specs.Holds.{FieldsAt, ElementsAt}
use Rattle.doc_items.specs.Moving.{move-fields, move-elements}
use Rattle.text_chars.specs.Parts.{part, back, part_length, back-length}
use Rattle.doc_items.specs.Parts.{numbers, letters, agree-back, grown-back}
use Rattle.read_cycle.specs.Clauses.{Free, Asked, Array, Object, ArrayIs, ObjectIs}
use Rattle.read_grammar.specs.Limits.Limits.{nesting_of}
use Rattle.read_values.specs.declared.pieces.Listed.{Listed}
use Rattle.read_grammar.specs.Decisions.{closes}
use Rattle.read_grammar.specs.Roots.Contracts.{fields_from, elements_from, Opens, OpeningIs}
use Rattle.read_grammar.specs.declared.roots.Opening.{Opening}
use Rattle.read_documents.specs.Trees.{Outline, Ends, PutRootAsked, PutRootIs, ScratchAsked, RootIs}

module _ {s : List ℕ} {at left items : ℕ} {table text : List ℕ} (a : ScratchAsked s at left items table text) where
  body-asks : Asked s at left items (part 8 table) (part (2 * at) text)
  body-asks = record {
    short = a.short;
    inside = a.inside;
    nested = a.nested;
    few = a.few;
    table-room = omega (arith, a.table-room, a.few, part_length 8 table);
    text-room = omega (arith, a.text-room, a.inside, part_length (2 * at) text);
  }

  in_table : 8 ≤ length table
  in_table = omega (arith, a.table-room, a.few)

  in-text : 2 * at ≤ length text
  in-text = omega (arith, a.text-room, a.inside)

  body-fits : Fits w64 (2 * at)
  body-fits = omega (arith, a.inside, a.short)

  -- ---- objects

  module _ {closing : ℕ} {y z : List ℕ} {r : Result Listed Refusal} (m : ObjectIs closing s at left items (part 8 table) (part (2 * at) text) y z r) where
    object-outlined : PutRootAsked s (back 8 table y) 7 items r
    object-outlined = record {
      short = a.short;
      room = omega (arith, in_table, back-length 8 table y in_table m.kept_table);
      small = omega arith;
      ends = go r refl;
    }
      where
        go : (q : Result Listed Refusal) → r ≡ q → Ends s items q
        go (Ok v) e = let u : Object s at left items y z closing (Ok v) = rw e at m.is in (u.2.inside, u.2.more, u.2.few)
        go (Err d) e = tt

    object-outline : root_at s (nesting_of left) (after_gap s 0) items ≡ fields_from closing s (nesting_of left) at items → (q : Result Listed Refusal) → r ≡ q → Outline s left items (back 8 table y) (back (2 * at) text z) 7 q
    object-outline f (Err d) e =
        let u : Object s at left items y z closing (Err d) = rw e at m.is in
        (u.0, f ∙ rw u.1 refl, u.2, u.3)
    object-outline f (Ok v) e =
        let u : Object s at left items y z closing (Ok v) = rw e at m.is in
        (fields u.0, f ∙ rw u.1 refl, (refl, moved u.0 v.next v.items u.2.inside u.3))
      where
        moved : (fs : Fields) (c : Cursor) (n : ℕ) → c.at.0 ≤ length s → FieldsAt (numbers y) (letters (2 * at) z) (2 * at) (2 * c.at.0) Free 0 (n - items) fs
            → FieldsAt (numbers (back 8 table y)) (letters 0 (back (2 * at) text z)) 0 (2 * length s) Free 1 (n - items + 1) fs
        moved fs c n l h =
            let i : 0 + 2 * at ≡ 2 * at = omega arith in
            let h' : FieldsAt (numbers y) (letters (0 + 2 * at) z) (2 * at) (2 * c.at.0) Free 0 (n - items) fs = rw i h in
            move-fields Free (numbers y) (numbers (back 8 table y))
            (grown-back text z 0 (2 * at) in-text (2 * at) (2 * c.at.0) 0 (2 * length s) (omega arith) (omega arith) (omega arith)) 1 fs 0 (n - items)
            (agree-back table y 1 in_table 0 (n - items)) h'

    object-rooted : {x' : List ℕ} {q : Result Listed Refusal} → root_at s (nesting_of left) (after_gap s 0) items ≡ fields_from closing s (nesting_of left) at items
        → PutRootIs s 7 items r (back 8 table y) x' q → RootIs s left items table text x' (back (2 * at) text z) q
    object-rooted f w = record {
      is = w.is left (back (2 * at) text z) (object-outline f r refl);
      kept_table = w.kept ∙ back-length 8 table y in_table m.kept_table;
      kept-text = back-length (2 * at) text z in-text m.kept-text;
    }

  -- ---- arrays

  module _ {y z : List ℕ} {r : Result Listed Refusal} (m : ArrayIs s at left items (part 8 table) (part (2 * at) text) y z r) where
    array-outlined : PutRootAsked s (back 8 table y) 6 items r
    array-outlined = record {
      short = a.short;
      room = omega (arith, in_table, back-length 8 table y in_table m.kept_table);
      small = omega arith;
      ends = go r refl;
    }
      where
        go : (q : Result Listed Refusal) → r ≡ q → Ends s items q
        go (Ok v) e = let u : Array s at left items y z (Ok v) = rw e at m.is in (u.2.inside, u.2.more, u.2.few)
        go (Err d) e = tt

    array-outline : root_at s (nesting_of left) (after_gap s 0) items ≡ elements_from s (nesting_of left) at items → (q : Result Listed Refusal) → r ≡ q → Outline s left items (back 8 table y) (back (2 * at) text z) 6 q
    array-outline f (Err d) e =
        let u : Array s at left items y z (Err d) = rw e at m.is in
        (u.0, f ∙ rw u.1 refl, u.2, u.3)
    array-outline f (Ok v) e =
        let u : Array s at left items y z (Ok v) = rw e at m.is in
        (elements u.0, f ∙ rw u.1 refl, (refl, moved u.0 v.next v.items u.2.inside u.3))
      where
        moved : (es : Elements) (c : Cursor) (n : ℕ) → c.at.0 ≤ length s → ElementsAt (numbers y) (letters (2 * at) z) (2 * at) (2 * c.at.0) Free 0 (n - items) es
            → ElementsAt (numbers (back 8 table y)) (letters 0 (back (2 * at) text z)) 0 (2 * length s) Free 1 (n - items + 1) es
        moved es c n l h =
            let i : 0 + 2 * at ≡ 2 * at = omega arith in
            let h' : ElementsAt (numbers y) (letters (0 + 2 * at) z) (2 * at) (2 * c.at.0) Free 0 (n - items) es = rw i h in
            move-elements Free (numbers y) (numbers (back 8 table y))
            (grown-back text z 0 (2 * at) in-text (2 * at) (2 * c.at.0) 0 (2 * length s) (omega arith) (omega arith) (omega arith)) 1 es 0 (n - items)
            (agree-back table y 1 in_table 0 (n - items)) h'

    array-rooted : {x' : List ℕ} {q : Result Listed Refusal} → root_at s (nesting_of left) (after_gap s 0) items ≡ elements_from s (nesting_of left) at items
        → PutRootIs s 6 items r (back 8 table y) x' q → RootIs s left items table text x' (back (2 * at) text z) q
    array-rooted f w = record {
      is = w.is left (back (2 * at) text z) (array-outline f r refl);
      kept_table = w.kept ∙ back-length 8 table y in_table m.kept_table;
      kept-text = back-length (2 * at) text z in-text m.kept-text;
    }

-- ---- the root

scratch : {s : List ℕ} {left items : ℕ} {table text : List ℕ} → ScratchAsked s 0 left items table text → (at : ℕ) → at ≤ length s
    → ScratchAsked s at left items table text
scratch a at l = record {
  short = a.short;
  inside = l;
  nested = a.nested;
  few = a.few;
  table-room = a.table-room;
  text-room = a.text-room;
}

module _ {s : List ℕ} {o : Opening} (h : OpeningIs s o) where
  module _ {c : Cursor} {closing : ℕ} (e : o ≡ Opening.Object c closing) where
    opens-object : Opens s (Opening.Object c closing)
    opens-object = rw e at h.is

    pub root-closes : closes closing ≡ true
    root-closes = opens-object.0

    module _ {left items : ℕ} {table text : List ℕ} (a : ScratchAsked s 0 left items table text) where
      below : ScratchAsked s c.at.0 left items table text
      below = scratch a c.at.0 opens-object.1

      pub root-object-fits : Fits w64 (2 * c.at.0)
      root-object-fits = body-fits below

      pub root-object-text : 2 * c.at.0 ≤ length text
      root-object-text = in-text below

      pub root-object-asks : Asked s c.at.0 left items (part 8 table) (part (2 * c.at.0) text)
      root-object-asks = body-asks below

      module _ {y z : List ℕ} {r : Result Listed Refusal} (m : ObjectIs closing s c.at.0 left items (part 8 table) (part (2 * c.at.0) text) y z r) where
        pub root-object-puts : PutRootAsked s (back 8 table y) 7 items r
        root-object-puts = object-outlined below m

        pub root-object-is : {x' : List ℕ} {q : Result Listed Refusal} → PutRootIs s 7 items r (back 8 table y) x' q
            → RootIs s left items table text x' (back (2 * c.at.0) text z) q
        root-object-is w = object-rooted below m (opens-object.2 (nesting_of left) items) w

  module _ {c : Cursor} (e : o ≡ Opening.Array c) where
    opens-array : Opens s (Opening.Array c)
    opens-array = rw e at h.is

    module _ {left items : ℕ} {table text : List ℕ} (a : ScratchAsked s 0 left items table text) where
      inside : ScratchAsked s c.at.0 left items table text
      inside = scratch a c.at.0 opens-array.0

      pub root-array-fits : Fits w64 (2 * c.at.0)
      root-array-fits = body-fits inside

      pub root-array-text : 2 * c.at.0 ≤ length text
      root-array-text = in-text inside

      pub root-array-asks : Asked s c.at.0 left items (part 8 table) (part (2 * c.at.0) text)
      root-array-asks = body-asks inside

      module _ {y z : List ℕ} {r : Result Listed Refusal} (m : ArrayIs s c.at.0 left items (part 8 table) (part (2 * c.at.0) text) y z r) where
        pub root-array-puts : PutRootAsked s (back 8 table y) 6 items r
        root-array-puts = array-outlined inside m

        pub root-array-is : {x' : List ℕ} {q : Result Listed Refusal} → PutRootIs s 6 items r (back 8 table y) x' q
            → RootIs s left items table text x' (back (2 * c.at.0) text z) q
        root-array-is w = array-rooted inside m (opens-array.1 (nesting_of left) items) w

pub ruleset roots = (root-closes, root-object-fits, root-object-text, root-object-asks, root-object-puts, root-object-is, root-array-fits, root-array-text, root-array-asks, root-array-puts, root-array-is)
