-- An element, or a field, in front of what stands inside it; and what parts it from the next.
use mathlib.Core.Path.{◌≡◌, refl, sym, ap, ◌∙◌}
use Prim.Native.Nat.{ℕ, suc, ◌+◌, ◌*◌, ◌-◌, ◌≤◌, ◌<◌}
use mathlib.Core.Bool.{true, false}
use mathlib.Core.List.{List, ◌∷◌}
use mathlib.Core.Option.{Option, none, some}
use native.Mathlib.Omega.{arith}
use lib.Dec.{ltb}
use lib.ListN.{length, get_or}
use borrow.Author.Tests.{lt-ltb}
use Rattle.rules.specs.Sizes.{max_items}
use Rattle.rules.specs.Refusals.{Refusal, placed, not_allowed, ok, refused, Read, got}
use Rattle.rules.specs.Tree.{Key, Node, no-elements, element, no_fields, field}
use Rattle.rules.specs.Reading.{Start, start_of, count_item, parted, element_at, inside, value_in}
use Rattle.theory.specs.ValueSteps.{value-nothing}
use Rattle.doc_items.specs.Holds.{Shown, ElementsAt, FieldsAt}
use Rattle.doc_items.specs.Moving.{Grown, move-shown}
use Rattle.text_chars.specs.Parts.{back, back_below, back_above}
use Rattle.doc_items.specs.Parts.{numbers, letters, agree-back, grown-back}
use Rattle.doc_items.specs.Keys.{HeldKeys, key_sizes}
use Rattle.doc_items.specs.Writing.{ItemIs}
use Rattle.doc_items.specs.declared.Item.{Item}
use Rattle.read_values.specs.Fields.Keys.{PutIs}
use Rattle.read_values.specs.Fields.Chains.{put_holds}
use Rattle.read_cycle.specs.Clauses.{Free, parted_after}

-- ---- what parts a member from the next

module _ (closing : ℕ) (s : List ℕ) {A : Type 0} {m : Read A} where
  pub parted-got : {a : A} {end n p after : ℕ} → m ≡ got a end n → parted closing s end ≡ ok p after → parted_after closing s m ≡ got a after n
  parted-got e f = rw (e, f) refl

  pub parted-fail : {a : A} {end n : ℕ} {x : Refusal} → m ≡ got a end n → parted closing s end ≡ refused x → parted_after closing s m ≡ refused x
  parted-fail e f = rw (e, f) refl

  pub parted-rejected : {x : Refusal} → m ≡ refused x → parted_after closing s m ≡ refused x
  parted-rejected e = rw e refl

-- ---- elements

pub element-by : (s : List ℕ) (nesting at items : ℕ) → 1 ≤ nesting → nesting ≤ 32 → items < max_items
    → element_at (value_in s) s nesting at items ≡ value_in s nesting at (items + 1)
unfolding element_at count_item
element-by s nesting at items l m h = go (start_of s at) refl
  where
    go : (o : Option Start) → start_of s at ≡ o
        → elim o [ none ↦ refused (not_allowed s at) | some start ↦ elim (ltb items max_items) [ true ↦ value_in s nesting at (items + 1) | false ↦ refused (placed 8 at) ] ]
        ≡ value_in s nesting at (items + 1)
    go none e = sym (value-nothing s nesting at (items + 1) l m e)
    go (some start) e = rw (lt-ltb items max_items h) refl

-- an item in front of a node that stands behind it
pub element-held : (x y z x' : List ℕ) (i : Item) (at items end after n : ℕ) (nd : Node) → 8 ≤ length x → ItemIs 0 i (back 8 x y) x' → i.size ≡ n - items → i.number ≡ 0
    → suc items ≤ n → end ≤ after
    → Shown (numbers y) (letters (2 * at) z) (2 * at) (2 * end) Free 0 i.kind i.text.0 i.textlen.0 0 0 (n - (items + 1)) nd
    → ElementsAt (numbers x') (letters (2 * at) z) (2 * at) (2 * after) Free 0 (n - items) (element nd no-elements)
element-held x y z x' i at items end after n nd room w u v l f h =
    let size : get_or x' 1 0 ≡ n - items = w.size ∙ u in
    let g : Grown (letters (2 * at) z) (letters (2 * at) z) (2 * at) (2 * end) (2 * at) (2 * after) =
    record { low = omega arith; high = omega arith; text = λ p q r. refl } in (
      0,
      (omega arith, λ k p q. absurd (omega arith)),
      (omega arith, omega arith),
      move-shown Free (numbers y) (numbers x') g 1 nd 0 i.kind i.text.0 i.textlen.0 0 0 (n - (items + 1)) (get_or x' 0 0) (get_or x' 4 0)
          (get_or x' 5 0) (get_or x' 7 0) 1 (0 + get_or x' 1 0) w.kind w.text w.textlen (w.number ∙ v) (omega arith) (omega arith) agree h,
      (omega arith, λ k p q. absurd (omega arith)),
    )
  where
    agree : (k : ℕ) → 8 * 0 ≤ k → k < 8 * (n - (items + 1)) → get_or y k 0 ≡ get_or x' (k + 8 * 1) 0
    agree k p q =
        let e : k + 8 * 1 ≡ 8 + k = omega arith in
        sym (ap (λ (j : ℕ). get_or x' j 0) e ∙ w.above (8 + k) (omega arith) ∙ back_above 8 x y k room)

-- ---- fields

-- the items of a key's elements in front of the value's
pub field-held : (x y x' t z marks : List ℕ) (at there end after items n count kind o w : ℕ) (k : Key) (ks : List Key) (nd : Node)
    → PutIs marks (back (8 * count) x y) x' count (n - items) (2 * at) kind o w → count ≡ suc (length ks) → 8 * count ≤ length x → 2 * (there - at) ≤ length t
    → HeldKeys 0 0 (k ∷ ks) t marks → key_sizes (k ∷ ks) + at ≤ there → at ≤ there → there ≤ end → end ≤ after → items + count ≤ n
    → Shown (numbers y) (letters (2 * there) z) (2 * there) (2 * end) Free 0 kind o w 0 0 (n - (items + count)) nd
    → FieldsAt (numbers x') (letters (2 * at) (back (2 * (there - at)) t z)) (2 * at) (2 * after) Free 0 (n - items) (field k (inside ks nd) no_fields)
field-held x y x' t z marks at there end after items n count kind o w k ks nd p c room space held short b1 b2 b3 b4 h =
    let v = 2 * (there - at) in
    let e : 2 * at + v ≡ 2 * there = omega arith in
    let h' : Shown (numbers y) (letters (2 * at + v) z) (2 * there) (2 * end) Free 0 kind o w 0 0 (n - (items + count)) nd = rw e h in
    let g : Grown (letters (2 * at + v) z) (letters (2 * at) (back v t z)) (2 * there) (2 * end) (2 * at) (2 * after) =
    grown-back t z (2 * at) v space (2 * there) (2 * end) (2 * at) (2 * after) (omega arith) (omega arith) (omega arith) in
    let moved : Shown (numbers (back (8 * count) x y)) (letters (2 * at) (back v t z)) (2 * at) (2 * after) Free 0 kind o w 0 count (n - items) nd =
    move-shown Free (numbers y) (numbers (back (8 * count) x y)) g count nd 0 kind o w 0 0 (n - (items + count)) kind o w 0 count (n - items)
    refl refl refl refl (omega arith) (omega arith) (agree-back x y count room 0 (n - (items + count))) h' in
    put_holds p k ks c (letters (2 * at) (back v t z)) (2 * at) (2 * after) t held
    (λ q l m. back_below v t z (q - 2 * at) space (omega arith)) (omega arith) (omega arith) nd moved
