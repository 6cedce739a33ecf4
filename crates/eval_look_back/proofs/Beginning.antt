-- The beginning of the way down: the root's field around the item, by the links of those that have the path's first element as their key.
use mathlib.Core.Path.{◌≡◌, refl, sym, ap, subst, ◌∙◌}
use Prim.Native.Nat.{ℕ, ◌+◌, ◌<◌}
use mathlib.Core.Bool.{Bool, true, false, cond}
use mathlib.Core.List.{List, []}
use mathlib.Core.Option.{none, some}
use native.Mathlib.Omega.{arith}
use lib.ListN.{length, drop, get_or}
use Rattle.rules.specs.Bytes.{Text, same}
use Rattle.rules.specs.Tree.{Fields, Root, fields, elements}
use Rattle.doc_items.specs.Codes.{number_at, next_at}
use Rattle.doc_items.specs.Parts.{numbers}
use Rattle.doc_items.specs.Writing.{ReadIs}
use Rattle.theory_back.specs.Descent.{down_node}
use Rattle.theory_back.specs.LookBack.{Left, onward}
use Rattle.theory_back.specs.Passes.{below_one, looks_back, onward-same, onward-other, onward-off}
use Rattle.eval_keys.specs.Columns as columns
use Rattle.eval_root_index.specs.Links.{Follows}
use Rattle.eval_root_index.specs.Documents.{places-rise}
use Rattle.eval_look_back.specs.Ranges.{Number, FieldsIn}
use Rattle.eval_look_back.specs.Passing.{Found}
use Rattle.eval_look_back.specs.Roots.{spanning, FirstFields, items_of, AroundOf, around-of}
use Rattle.eval_look_back.specs.Steps.{Down, On, on-field, down-end, down-gives-up}
use Rattle.eval_look_back.specs.Clauses.{RootAroundIs, HasKeyIs, PathIs, AskedAt, own_of, Going, LooksBackIs}

module _ {T keys : List ℕ} {count item first at : ℕ} {own : ℕ} {b : Bool} (has : HasKeyIs keys count own b) (yes : b ≡ true) (low : 0 < item) (n : ReadIs keys 0 first) (f : RootAroundIs T first item at) where
  -- what the answer says where the root is an object: it is the field around the item, if that has the path's first element as its key
  record Entered (h : ℕ → ℕ) (lo hi bound : ℕ) (root : Root) (p : List Text) (a : AskedAt T item h lo hi bound root) : Type 0 where
    none_other : at ≡ 0 → looks_back root p (number_at (numbers T) item) ≡ none
    ends : (at ≡ 0 → ⊥) → at ≡ item → looks_back root p (number_at (numbers T) item) ≡ some (drop 1 p, 1)
    goes : (at ≡ 0 → ⊥) → at < item
        → On (numbers T) h lo hi bound item a.kind none (onward below_one) (looks_back root p (number_at (numbers T) item)) (some (drop 1 p, 1)) at

  module _ (h : ℕ → ℕ) (lo hi bound : ℕ) (p : List Text) (there : 0 < length p) where
    abbrev g : ℕ → ℕ
    g = numbers T

    abbrev number : ℕ
    number = number_at g item

    abbrev state : Left ℕ
    state = some (p, 0)

    module _ (fs : Fields) (a : AskedAt T item h lo hi bound (fields fs)) (linked : FirstFields T (get_or keys 0 0) h lo hi bound (get_or p 0 []) (fields fs)) where
      abbrev result : Left ℕ
      result = looks_back (fields fs) p number

      abbrev s : FieldsIn g h lo hi bound (0 + 1) (next_at g 0) fs
      s = a.shown.1

      around : AroundOf g h lo hi bound item a.kind (get_or p 0 []) fs (0 + 1) (next_at g 0) s
      around = around-of g h lo hi bound item a.kind (get_or p 0 []) fs (0 + 1) (next_at g 0) s (omega arith) (omega (arith, a.inside))

      down : Down g h lo hi bound item a.kind none (onward below_one) result state 0
      unfolding down_node
      down = record { from = 0; fields = fs; shown = s; numbers = a.from; is = refl; low = low; high = omega (arith, a.inside) }

      abbrev found : Found g h lo hi bound (0 + 1) (next_at g 0) fs around.at
      found = around.spans.found

      key-is : at ≡ cond (same found.key.text (get_or p 0 [])) around.at 0
      key-is =
          let js = items_of g h lo hi bound item a.kind (get_or p 0 []) fs (0 + 1) (next_at g 0) s in
          f.is js (subst (λ (k : ℕ). Follows (columns.next_at T) (columns.first_at T k) js) (sym n.is) (linked s))
          (places-rise g h lo hi (Number g h lo hi bound) (get_or p 0 []) fs (0 + 1) (next_at g 0) s) ∙ around.is

      other : same found.key.text (get_or p 0 []) ≡ false → result ≡ none
      unfolding down
      other e =
          down-gives-up g h lo hi bound item a.kind none (onward below_one) result state 0 down around.at found around.spans.low around.spans.high
          (onward-off below_one) (onward-other below_one 0 found.earlier found.key p 0 there e)

      equal : same found.key.text (get_or p 0 []) ≡ true → onward below_one state found.earlier found.key ≡ some (drop 1 p, 1)
      equal e = onward-same below_one 0 found.earlier found.key p 0 there e

      here : same found.key.text (get_or p 0 []) ≡ true → around.at ≡ item → result ≡ some (drop 1 p, 1)
      unfolding down
      here e z =
          down-end g h lo hi bound item a.kind none (onward below_one) result state 0 down around.at found around.spans.low around.spans.high z
          ∙ equal e

      inner : same found.key.text (get_or p 0 []) ≡ true → around.at < item
          → On g h lo hi bound item a.kind none (onward below_one) result (some (drop 1 p, 1)) around.at
      unfolding down
      inner e z =
          subst (λ (x : Left ℕ). On g h lo hi bound item a.kind none (onward below_one) result x around.at) (equal e)
          (on-field g h lo hi bound item a.kind none (onward below_one) result state 0 down around.at found z around.spans.high)

      entered : Entered h lo hi bound (fields fs) p a
      entered = go (same found.key.text (get_or p 0 [])) refl key-is
        where
          go : (b : Bool) → same found.key.text (get_or p 0 []) ≡ b → at ≡ cond b around.at 0 → Entered h lo hi bound (fields fs) p a
          go true e z = record {
            none_other = λ y. absurd (omega (arith, z, around.past));
            ends = λ y w. here e (sym z ∙ w);
            goes = λ y l.
                subst (On g h lo hi bound item a.kind none (onward below_one) result (some (drop 1 p, 1))) (sym z) (inner e (omega arith));
          }
          go false e z = record { none_other = λ y. other e; ends = λ y. absurd (y z); goes = λ y. absurd (y z) }

    entered-in : (root : Root) (a : AskedAt T item h lo hi bound root) → FirstFields T (get_or keys 0 0) h lo hi bound (get_or p 0 []) root
        → Entered h lo hi bound root p a
    unfolding down_node spanning
    entered-in (fields fs) a linked = entered fs a linked
    entered-in (elements es) a linked =
        let z : at ≡ 0 = f.is [] (ap (columns.first_at T) n.is ∙ linked) tt in
        record { none_other = λ y. refl; ends = λ y. absurd (y z); goes = λ y. absurd (y z) }

  enters : (h : ℕ → ℕ) (lo hi bound : ℕ) (root : Root) (p : List Text) (a : AskedAt T item h lo hi bound root)
      → PathIs T keys count h lo hi bound root p → Entered h lo hi bound root p a
  enters h lo hi bound root p a w =
      let (i, l, z) = has.there yes in
      let there : 0 < length p = omega (arith, w.long) in
      entered-in h lo hi bound p there root a (w.first there)

  -- the root has no such field around the item
  pub looks-none : at ≡ 0 → LooksBackIs T keys count item 0
  looks-none z = record { is = λ h lo hi bound root p a w. sym (ap own_of ((enters h lo hi bound root p a w).none_other z)) }

  -- it is the item itself
  pub looks-here : (at ≡ 0 → ⊥) → at ≡ item → LooksBackIs T keys count item 1
  looks-here y z = record { is = λ h lo hi bound root p a w. sym (ap own_of ((enters h lo hi bound root p a w).ends y z)) }

  pub looks-start : (at ≡ 0 → ⊥) → (at ≡ item → ⊥) → Going T keys count item at 1
  looks-start y z =
      let less : at < item = omega (arith, z, f.upto) in
      record { low = less; is = λ h lo hi bound root p a w. (enters h lo hi bound root p a w).goes y less }

pub ruleset begins = (looks-none, looks-here, looks-start)
