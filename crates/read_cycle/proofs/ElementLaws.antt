-- One law for each answer of the reader of an element.
use Rattle.std.specs.Prelude.{Result, Ok, Err}
use mathlib.Core.Path.{◌≡◌, refl, ap, ◌∙◌}
use Prim.Native.Nat.{ℕ, suc, ◌+◌, ◌≤◌, ◌<◌}
use mathlib.Core.List.{List}
use native.Mathlib.Omega.{arith}
use lib.ListN.{length}
use Rattle.rules.specs.Sizes.{max_items}
use Rattle.rules.specs.Reading.{element_at, value_in}
use Rattle.text_chars.specs.Cursor.{doc, refusal}
use Rattle.text_chars.specs.declared.Refusal.{Refusal}
use Rattle.text_chars.specs.Parts.{part, back, part_length, back-length}
use Rattle.doc_items.specs.Writing.{ItemIs}
use Rattle.read_grammar.specs.Limits.Limits.{nesting_of, ExcessNumberIs}
use Rattle.read_values.specs.Pieces.Pieces.{Behind, AfterMemberIs}
use Rattle.read_steps.specs.Steps.{element_item, Listable, FinishElementAsked, Lists, FinishElementIs}
use Rattle.read_values.specs.declared.pieces.Listed.{Listed}
use Rattle.read_values.specs.declared.pieces.Valued.{Valued}
use Rattle.read_cycle.specs.Clauses.{Asked, Value, ValueIs, AnElement, ElementIs}
use Rattle.read_cycle.specs.Measures.{need}
use Rattle.read_cycle.proofs.Parting.{parted-got, parted-fail, parted-rejected, element-by, element-held}

module _ {s : List ℕ} {at left items : ℕ} {table text : List ℕ} (a : Asked s at left items table text) where
  -- ---- no further item

  pub element-full : {k : ℕ} → items ≡ max_items → ExcessNumberIs s at k → ElementIs s at left items table text table text (Err (refusal k (doc at)))
  element-full {k} e h = record {
    is = (h.why, parted-rejected 93 s (ap (element_at (value_in s) s (nesting_of left) at) e ∙ h.is (value_in s) (nesting_of left)), h.number, h.place);
    kept_table = refl;
    kept-text = refl;
  }

  module _ (few : items ≡ max_items → ⊥) where
    here : element_at (value_in s) s (nesting_of left) at items ≡ value_in s (nesting_of left) at (items + 1)
    here = element-by s (nesting_of left) at items (omega (arith, a.nested)) (omega arith) (omega (arith, a.few, few))

    in_table : 8 ≤ length table
    in_table = omega (arith, a.table-room, a.few, few)

    pub element-asks : Asked s at left (items + 1) (part 8 table) text
    element-asks = record {
      short = a.short;
      inside = a.inside;
      nested = a.nested;
      few = omega (arith, a.few, few);
      table-room = omega (arith, a.table-room, in_table, part_length 8 table);
      text-room = a.text-room;
    }

    module _ {y z : List ℕ} {v : Result Valued Refusal} (m : ValueIs s at left (items + 1) (part 8 table) text y z v) where
      kept_back : length (back 8 table y) ≡ length table
      kept_back = back-length 8 table y in_table m.kept_table

      pub element-membered : FinishElementAsked s at items v (back 8 table y)
      element-membered = record { is = go v refl }
        where
          go : (q : Result Valued Refusal) → v ≡ q → Listable s at items (back 8 table y) q
          go (Err d) e = tt
          go (Ok o) e =
              let t : Value s at left (items + 1) y z (Ok o) = rw e at m.is in
              let f : o.items ≤ max_items = t.2.few in
              let g : o.next.at.0 ≤ length s = t.2.inside in
              let h : suc at ≤ o.next.at.0 = t.2.forward in (
                a.short,
                omega (arith, t.2.more),
                g,
                record {
                  room = omega (arith, in_table, kept_back);
                  kind = omega (arith, t.3);
                  size = omega arith;
                  key = omega arith;
                  keylen = omega arith;
                  text = t.4;
                  textlen = t.5;
                  place = omega (arith, a.short);
                  number = omega arith;
                },
              )

      module _ {x' : List ℕ} {r : Result Listed Refusal} (w' : FinishElementIs s at items v (back 8 table y) x' r) where
        parting : (o : Valued) → Value s at left (items + 1) y z (Ok o)
            → ItemIs 0 (element_item items o.items o.kind o.text o.size (doc at)) (back 8 table y) x' → AfterMemberIs 93 s o.next.at.0 o.items r
            → (q : Result Listed Refusal) → r ≡ q → AnElement s at left items x' z q
        parting o t i b (Ok d) f =
            let u : Behind 93 s o.next.at.0 o.items (Ok d) = rw f at b.is in
            let same : d.items ≡ o.items = u.0 in
            let l : suc at ≤ o.next.at.0 = t.2.forward in (
              t.0,
              rw same (parted-got 93 s (here ∙ t.1) u.3.1),
              record { forward = omega (arith, u.1); inside = u.2; more = omega (arith, t.2.more); few = omega (arith, t.2.few) },
              rw same (element-held table y z x' (element_item items o.items o.kind o.text o.size (doc at)) at items o.next.at.0 d.next.at.0 o.items t.0 in_table i refl refl
                  (omega (arith, t.2.more)) u.1 t.6),
            )
        parting o t i b (Err d) f =
            let u : Behind 93 s o.next.at.0 o.items (Err d) = rw f at b.is in
            (u.0, parted-fail 93 s (here ∙ t.1) u.1, u.2, u.3)

        go : (q : Result Valued Refusal) → v ≡ q → ElementIs s at left items table text x' z r
        go (Err d) e =
            let t : Value s at left (items + 1) y z (Err d) = rw e at m.is in
            let u : Lists s at items (back 8 table y) x' r (Err d) = rw e at w'.is in
            record {
              is = rw u.0 (t.0, parted-rejected 93 s (here ∙ t.1), t.2, t.3);
              kept_table = ap length u.1 ∙ kept_back;
              kept-text = m.kept-text;
            }
        go (Ok o) e =
            let t : Value s at left (items + 1) y z (Ok o) = rw e at m.is in
            let u : Lists s at items (back 8 table y) x' r (Ok o) = rw e at w'.is in
            record { is = parting o t u.0 u.1 r refl; kept_table = u.0.kept ∙ kept_back; kept-text = m.kept-text }

        pub element-done : ElementIs s at left items table text x' z r
        element-done = go v refl

pub element-falls : (s : List ℕ) (at t : ℕ) → need 4 s at ≡ t → need 3 s at < t
element-falls s at t e = omega arith

pub ruleset an-element = (element-full, element-asks, element-membered, element-done, element-falls)
