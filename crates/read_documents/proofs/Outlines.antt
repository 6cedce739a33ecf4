-- The root's item, in front of all others, and what stands behind the root.
use Rattle.std.specs.Prelude.{Result, Ok, Err}
use mathlib.Core.Path.{◌≡◌, refl, sym, ap, ◌∙◌}
use mathlib.Core.List.{List}
use Prim.Native.Nat.{ℕ, ◌+◌, ◌*◌, ◌-◌, ◌≤◌}
use native.Mathlib.Omega.{arith}
use mir.Syntax.{w64}
use mir.Val.{Fits}
use lib.ListN.{length, get_or}
use Rattle.rules.specs.Sizes.{max_document, max_items}
use Rattle.rules.specs.Refusals.{Refusal, placed, refused}
use Rattle.rules.specs.Characters.{after_gap}
use Rattle.rules.specs.Tree.{Root, root_node}
use Rattle.rules.specs.Reading.{root_at, read_root}
use Rattle.text_chars.specs.declared.Refusal.{Refusal as Refused}
use Rattle.text_chars.specs.declared.Cursor.{Cursor}
use Rattle.read_grammar.specs.Roots.Contracts.{EndingIs, Ends as EndsAs}
use Rattle.doc_items.specs.Holds.{Shown, NodeAt}
use Rattle.doc_items.specs.Moving.{Grown, move-shown}
use Rattle.doc_items.specs.Parts.{numbers, letters}
use Rattle.doc_items.specs.Writing.{ItemAsked, ItemIs}
use Rattle.doc_items.specs.declared.Item.{Item}
use Rattle.read_cycle.specs.Clauses.{Free}
use Rattle.read_grammar.specs.Limits.Limits.{nesting_of}
use Rattle.read_values.specs.declared.pieces.Listed.{Listed}
use Rattle.read_documents.specs.Trees.{Outline, Ends, PutRootAsked, PutRootIs}

-- ---- the rules' root

module _ (s : List ℕ) (nesting items : ℕ) where
  root-rejected : (x : Refusal) → root_at s nesting (after_gap s 0) items ≡ refused x → read_root s nesting items ≡ refused x
  unfolding read_root
  root-rejected x e = rw e refl

-- ---- the item

-- the root's, with those that were counted from one count to another
abbrev root_item : ℕ → ℕ → ℕ → Item
root_item kind items n = record {
  kind = kind;
  size = n - items + 1;
  key = record { 0 = 0 };
  keylen = record { 0 = 0 };
  text = record { 0 = 0 };
  textlen = record { 0 = 0 };
  place = record { 0 = 0 };
  number = 0;
}

module _ {s table : List ℕ} {kind items : ℕ} {r : Result Listed Refused} where
  pub outline-refused : {y : Refused} → r ≡ Err y → PutRootIs s kind items r table table (Err y)
  outline-refused {y} e = record {
    is = λ left text o.
        let u : Outline s left items table text kind (Err y) = rw e at o in
        (u.0, root-rejected s (nesting_of left) items u.0 u.1, u.2, u.3);
    kept = refl;
  }

  module _ {v : Listed} (e : r ≡ Ok v) {g : Result Cursor Refused} (h : EndingIs s v.next.at.0 g) where
    pub outline-trailing : {y : Refused} → g ≡ Err y → PutRootIs s kind items r table table (Err y)
    outline-trailing {y} f = record {
      is = λ left text o.
          let u : Outline s left items table text kind (Ok v) = rw e at o in
          let w : EndsAs s v.next.at.0 (Err y) = rw f at h.is in
          (placed 3 y.place.0, w.1 (nesting_of left) items u.0 v.items u.1, w.0, refl);
      kept = refl;
    }

    pub outline-done : {last : Cursor} {table' : List ℕ} → g ≡ Ok last → ItemIs 0 (root_item kind items v.items) table table' → items ≤ v.items → v.items ≤ max_items
        → PutRootIs s kind items r table table' (Ok (record { next = last; items = v.items }))
    outline-done {last} {table'} f w k m = record {
      is = λ left text o.
          let u : Outline s left items table text kind (Ok v) = rw e at o in
          let z : EndsAs s v.next.at.0 (Ok last) = rw f at h.is in (
            u.0,
            z (nesting_of left) items u.0 v.items u.1,
            record { more = k; few = m; shown = shown text u.0 u.2; whole = w.size },
          );
      kept = w.kept;
    }
      where
        shown : (text : List ℕ) (root : Root) → Shown (numbers table) (letters 0 text) 0 (2 * length s) Free 0 kind 0 0 0 1 (v.items - items + 1) (root_node root)
            → NodeAt (numbers table') (letters 0 text) 0 (2 * length s) Free 0 0 (root_node root)
        shown text root x =
            let f : Grown (letters 0 text) (letters 0 text) 0 (2 * length s) 0 (2 * length s) =
            record { low = omega arith; high = omega arith; text = λ p k l. refl } in
            move-shown Free (numbers table) (numbers table') f 0 (root_node root) 0 kind 0 0 0 1 (v.items - items + 1) (get_or table' 0 0) (get_or table' 4 0) (get_or table' 5 0)
            (get_or table' 7 0) 1 (0 + get_or table' 1 0) w.kind w.text w.textlen w.number (omega arith) (omega (arith, w.size))
            (λ k a b. let z : k + 8 * 0 ≡ k = omega arith in sym (ap (λ (j : ℕ). get_or table' j 0) z ∙ w.above k (omega arith))) x

  module _ (a : PutRootAsked s table kind items r) {v : Listed} (e : r ≡ Ok v) where
    ends : Ends s items (Ok v)
    ends = rw e at a.ends

    pub outline-inside : v.next.at.0 ≤ length s
    outline-inside = ends.0

    pub outline-short : length s ≤ max_document
    outline-short = a.short

    pub outline-more : items ≤ v.items
    outline-more = ends.1

    pub outline-few : v.items ≤ max_items
    outline-few = ends.2

    pub outline-fits : Fits w64 (v.items - items + 1)
    outline-fits = omega (arith, ends.2)

    pub outline-item : ItemAsked 0 (root_item kind items v.items) table
    outline-item = record {
      room = omega (arith, a.room);
      kind = omega (arith, a.small);
      size = omega (arith, ends.2);
      key = omega arith;
      keylen = omega arith;
      text = omega arith;
      textlen = omega arith;
      place = omega arith;
      number = omega arith;
    }

pub ruleset outlines = (outline-refused, outline-trailing, outline-done, outline-inside, outline-short, outline-more, outline-few, outline-fits, outline-item)
