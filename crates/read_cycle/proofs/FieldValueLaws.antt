-- One law for each answer of the reader of a field whose key was read.
use Rattle.std.specs.Prelude.{Result, Ok, Err}
use mathlib.Core.Path.{◌≡◌, refl, ap, ◌∙◌}
use Prim.Native.Nat.{ℕ, suc, ◌+◌, ◌*◌, ◌-◌, ◌≤◌, ◌<◌}
use mathlib.Core.List.{List, ◌∷◌}
use native.Mathlib.Omega.{arith}
use mir.Syntax.{w64}
use mir.Val.{Fits}
use lib.ListN.{length}
use Rattle.rules.specs.Refusals.{got, refused}
use Rattle.rules.specs.Tree.{Key}
use Rattle.rules.specs.Reading.{inside}
use Rattle.text_chars.specs.declared.Refusal.{Refusal}
use Rattle.text_chars.specs.Parts.{part, back, part_length, back-length}
use Rattle.doc_items.specs.Keys.{HeldKeys, key_sizes}
use Rattle.read_values.specs.Fields.Keys.{PutIs}
use Rattle.read_grammar.specs.Limits.Limits.{nesting_of}
use Rattle.read_values.specs.Pieces.Pieces.{Behind, AfterMemberIs}
use Rattle.read_steps.specs.Steps.{Nameable, FinishFieldAsked, Named, FinishFieldIs}
use Rattle.read_values.specs.declared.pieces.Listed.{Listed}
use Rattle.read_values.specs.declared.pieces.Valued.{Valued}
use Rattle.read_cycle.specs.Clauses.{Asked, Value, ValueIs, FieldValueAsked, valued, Keyed, FieldValueIs}
use Rattle.read_cycle.specs.Measures.{need}
use Rattle.read_cycle.proofs.Parting.{parted-got, parted-fail, parted-rejected, field-held}

module _ {s : List ℕ} {there at left items count : ℕ} {marks table text : List ℕ} (a : FieldValueAsked s there at left items count marks table text) where
  pub keyed-table : 8 * count ≤ length table
  keyed-table = omega (arith, a.table-room, a.items-few)

  pub keyed-text : 2 * (there - at) ≤ length text
  keyed-text = omega (arith, a.text-room, a.inside, a.forward)

  pub keyed-forward : at ≤ there
  keyed-forward = omega (arith, a.forward)

  pub keyed-deep : count ≤ left + 1
  keyed-deep = a.deep

  pub keyed-fits : Fits w64 (8 * count)
  keyed-fits = omega (arith, a.few)

  pub keyed-far : Fits w64 (2 * (there - at))
  keyed-far = omega (arith, a.inside, a.short)

  pub keyed-many : Fits w64 (items + count)
  keyed-many = omega (arith, a.items-few)

  pub keyed-left : Fits w64 (left + 1)
  keyed-left = omega (arith, a.nested)

  pub keyed-asks : Asked s there (left + 1 - count) (items + count) (part (8 * count) table) (part (2 * (there - at)) text)
  keyed-asks = record {
    short = a.short;
    inside = a.inside;
    nested = omega (arith, a.nested, a.counted);
    few = a.items-few;
    table-room = omega (arith, a.table-room, keyed-table, part_length (8 * count) table);
    text-room = omega (arith, a.text-room, a.forward, a.inside, part_length (2 * (there - at)) text);
  }

  module _ {y z : List ℕ} {v : Result Valued Refusal}
      (m : ValueIs s there (left + 1 - count) (items + count) (part (8 * count) table) (part (2 * (there - at)) text) y z v) where
    kept_back : length (back (8 * count) table y) ≡ length table
    kept_back = back-length (8 * count) table y keyed-table m.kept_table

    kept-text : length (back (2 * (there - at)) text z) ≡ length text
    kept-text = back-length (2 * (there - at)) text z keyed-text m.kept-text

    pub keyed-named : FinishFieldAsked s at items count marks v (back (8 * count) table y)
    keyed-named = record { is = go v refl }
      where
        go : (q : Result Valued Refusal) → v ≡ q → Nameable s at items count marks (back (8 * count) table y) q
        go (Err d) e = tt
        go (Ok o) e =
            let t : Value s there (left + 1 - count) (items + count) y z (Ok o) = rw e at m.is in (
              a.short,
              omega (arith, a.forward, a.inside, a.short),
              omega (arith, t.2.more),
              t.2.inside,
              record {
                keys = a.key ∷ a.keys;
                x = text;
                held = a.held;
                counted = a.counted;
                some = omega (arith, a.counted);
                few = a.few;
                sized = omega (arith, t.2.more);
                size_fits = omega (arith, t.2.few);
                kind_fits = omega (arith, t.3);
                text-fits = t.4;
                textlen-fits = t.5;
                base-fits = omega (arith, a.sizes, a.inside, a.short, a.forward);
                room = omega (arith, keyed-table, kept_back);
                marks-room = a.marks-room;
              },
            )

    module _ {closing : ℕ} {x' : List ℕ} {r : Result Listed Refusal} (w' : FinishFieldIs s at closing items count marks v (back (8 * count) table y) x' r) where
      kept : (q : Result Valued Refusal) → v ≡ q → length x' ≡ length table
      kept (Err d) e =
          let u : Named s at closing items count marks (back (8 * count) table y) x' r (Err d) = rw e at w'.is in
          ap length u.1 ∙ kept_back
      kept (Ok o) e =
          let u : Named s at closing items count marks (back (8 * count) table y) x' r (Ok o) = rw e at w'.is in
          u.0.kept ∙ kept_back

      module _ (k : Key) (ks : List Key) (held : HeldKeys 0 0 (k ∷ ks) text marks) (c : count ≡ suc (length ks)) (sizes : key_sizes (k ∷ ks) + at ≤ there) where
        parting : (o : Valued) → Value s there (left + 1 - count) (items + count) y z (Ok o)
            → PutIs marks (back (8 * count) table y) x' count (o.items - items) (2 * at) o.kind o.text.0 o.size.0
            → AfterMemberIs closing s o.next.at.0 o.items r → (q : Result Listed Refusal) → r ≡ q
            → Keyed closing s there at left items count x' (back (2 * (there - at)) text z) k ks q
        parting o t p b (Ok i) l =
            let u : Behind closing s o.next.at.0 o.items (Ok i) = rw l at b.is in
            let same : i.items ≡ o.items = u.0 in
            let far : suc there ≤ o.next.at.0 = t.2.forward in
            let whole : valued s (nesting_of (left + 1 - count)) there (items + count) k ks ≡ got (record { key = k; value = inside ks t.0 }) o.next.at.0 o.items = rw t.1 refl in (
              record { key = k; value = inside ks t.0 },
              rw same (parted-got closing s whole u.3.1),
              record { forward = omega (arith, u.1, a.forward); inside = u.2; more = omega (arith, t.2.more); few = omega (arith, t.2.few) },
              rw same (field-held table y x' text z marks at there o.next.at.0 i.next.at.0 items o.items count o.kind o.text.0 o.size.0 k ks t.0 p
                  c keyed-table keyed-text held sizes keyed-forward (omega arith) u.1 t.2.more t.6),
            )
        parting o t p b (Err d) l =
            let u : Behind closing s o.next.at.0 o.items (Err d) = rw l at b.is in
            let whole : valued s (nesting_of (left + 1 - count)) there (items + count) k ks ≡ got (record { key = k; value = inside ks t.0 }) o.next.at.0 o.items = rw t.1 refl in
            (u.0, parted-fail closing s whole u.1, u.2, u.3)

        go : (q : Result Valued Refusal) → v ≡ q → Keyed closing s there at left items count x' (back (2 * (there - at)) text z) k ks r
        go (Err d) e =
            let t : Value s there (left + 1 - count) (items + count) y z (Err d) = rw e at m.is in
            let u : Named s at closing items count marks (back (8 * count) table y) x' r (Err d) = rw e at w'.is in
            let whole : valued s (nesting_of (left + 1 - count)) there (items + count) k ks ≡ refused t.0 = rw t.1 refl in
            rw u.0 (t.0, parted-rejected closing s whole, t.2, t.3)
        go (Ok o) e =
            let t : Value s there (left + 1 - count) (items + count) y z (Ok o) = rw e at m.is in
            let u : Named s at closing items count marks (back (8 * count) table y) x' r (Ok o) = rw e at w'.is in
            parting o t u.0 u.1 r refl

      pub keyed-done : FieldValueIs closing s there at left items count marks table text x' (back (2 * (there - at)) text z) r
      keyed-done = record { is = λ k ks h c l. go k ks h c l v refl; kept_table = kept v refl; kept-text = kept-text }

pub keyed-falls : (s : List ℕ) (at t : ℕ) → need 4 s at ≡ t → need 3 s at < t
keyed-falls s at t e = omega arith

pub ruleset a-keyed = (keyed-table, keyed-text, keyed-forward, keyed-deep, keyed-fits, keyed-far, keyed-many, keyed-left, keyed-asks, keyed-named, keyed-done, keyed-falls)
