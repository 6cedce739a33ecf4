-- One law for each answer of the reader of a field.
use Rattle.std.specs.Prelude.{Result, Ok, Err}
use mathlib.Core.Path.{◌≡◌, refl, ap, ◌∙◌}
use Prim.Native.Nat.{ℕ, ◌+◌, ◌-◌, ◌≤◌, ◌<◌}
use mathlib.Core.List.{List}
use native.Mathlib.Omega.{arith}
use lib.ListN.{length}
use Rattle.rules.specs.Refusals.{Read}
use Rattle.rules.specs.Reading.{FieldRead, inside, field_at, value_in}
use Rattle.text_chars.specs.declared.Refusal.{Refusal}
use Rattle.read_keys.specs.Keys.{KeyAsked, Keys, KeyIs}
use Rattle.read_keys.specs.declared.KeyRead.{KeyRead}
use Rattle.read_grammar.specs.Limits.Limits.{nesting_of}
use Rattle.read_values.specs.declared.pieces.Listed.{Listed}
use Rattle.read_cycle.specs.Clauses.{Asked, parted_after, AField, FieldIs, FieldValueAsked, valued, Keyed, FieldValueIs}
use Rattle.read_cycle.specs.Measures.{need}
use Rattle.read_cycle.proofs.Parting.{parted-rejected}

module _ {s : List ℕ} {at left items : ℕ} {table text : List ℕ} (a : Asked s at left items table text) where
  pub field-key : {marks : List ℕ} → 34 ≤ length marks → KeyAsked s at left items text marks
  field-key l = record {
    short = a.short;
    inside = a.inside;
    deep = a.nested;
    many = a.few;
    room = omega (arith, a.text-room, a.inside);
    marks-room = l;
  }

  module _ {marks text₁ marks₁ : List ℕ} {r : Result KeyRead Refusal} (h : KeyIs s left at items text marks text₁ marks₁ r) where
    pub field-no-key : (closing : ℕ) {d : Refusal} → r ≡ Err d → FieldIs closing s at left items table text table text₁ (Err d)
    field-no-key closing {d} e =
        let t : Keys s left at items text₁ marks₁ (Err d) = rw e at h.is in
        record { is = (t.0, parted-rejected closing s (t.1 (value_in s)), t.2, t.3); kept_table = refl; kept-text = h.same_text }

    module _ {v : KeyRead} (e : r ≡ Ok v) where
      key : Keys s left at items text₁ marks₁ (Ok v)
      key = rw e at h.is

      pub field-asks : 34 ≤ length marks → FieldValueAsked s v.next.at.0 at left items v.count marks₁ table text₁
      field-asks l = record {
        key = key.0;
        keys = key.1;
        held = key.8;
        counted = key.2;
        few = key.3;
        items-few = key.4;
        nested = a.nested;
        deep = key.5;
        short = a.short;
        forward = key.6;
        inside = key.7;
        sizes = key.9;
        marks-room = omega (arith, h.same-marks);
        table-room = a.table-room;
        text-room = omega (arith, a.text-room, h.same_text);
      }

      pub field-falls : (t : ℕ) → need 4 s at ≡ t → need 4 s v.next.at.0 < t
      field-falls t q = omega (arith, key.6, key.7)

      nests : 32 - left + length key.1 ≡ nesting_of (left + 1 - v.count)
      nests = omega (arith, key.2, key.5, a.nested)

      here : field_at (value_in s) s (nesting_of left) at items ≡ valued s (nesting_of (left + 1 - v.count)) v.next.at.0 (items + v.count) key.0 key.1
      here = key.10 (value_in s) ∙ ap (λ (i : ℕ). valued s i v.next.at.0 (items + v.count) key.0 key.1) nests

      pub field-done : {closing : ℕ} {x' t' : List ℕ} {q : Result Listed Refusal} → FieldValueIs closing s v.next.at.0 at left items v.count marks₁ table text₁ x' t' q
          → FieldIs closing s at left items table text x' t' q
      field-done {closing} {x'} {t'} {q} m = record { is = go q (m.is key.0 key.1 key.8 key.2 key.9); kept_table = m.kept_table; kept-text = m.kept-text ∙ h.same_text }
        where
          same : parted_after closing s (field_at (value_in s) s (nesting_of left) at items)
              ≡ parted_after closing s (valued s (nesting_of (left + 1 - v.count)) v.next.at.0 (items + v.count) key.0 key.1)
          same = ap (λ (n : Read FieldRead). parted_after closing s n) here

          go : (p : Result Listed Refusal) → Keyed closing s v.next.at.0 at left items v.count x' t' key.0 key.1 p → AField s at left items x' t' closing p
          go (Ok d) u = (u.0, same ∙ u.1, u.2, u.3)
          go (Err d) u = (u.0, same ∙ u.1, u.2, u.3)

pub ruleset a-field = (field-key, field-no-key, field-asks, field-falls, field-done)
