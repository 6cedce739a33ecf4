-- One law for each answer of the reader of a value.
use Rattle.std.specs.Prelude.{Result, Ok, Err, Some, None}
use Rattle.std.specs.declared.option.Option.{Option}
use mathlib.Core.Path.{◌≡◌, refl, sym, ap, ◌∙◌}
use mathlib.Core.Logic.{inl, inr}
use Prim.Native.Nat.{ℕ, ◌+◌, ◌*◌, ◌-◌, ◌≤◌, ◌<◌}
use mathlib.Core.Bool.{Bool, true, false}
use mathlib.Core.List.{List}
use mathlib.Core.Option.{none, some}
use native.Mathlib.Omega.{arith}
use lib.Dec.{eqb}
use borrow.Author.Tests.{eqb-true, eqb-false}
use lib.ListN.{length}
use Rattle.rules.specs.Refusals.{placed, not_allowed, Read, read_then}
use Rattle.rules.specs.Characters.{after_inline}
use Rattle.rules.specs.Tree.{Pieces}
use Rattle.rules.specs.Reading.{Start, start_of, piece_at, text_joined, judge_value, value_in}
use Rattle.theory.specs.ValueSteps.{value-pieces}
use Rattle.text_chars.specs.declared.DocAt.{DocAt}
use Rattle.text_chars.specs.declared.Refusal.{Refusal}
use Rattle.text_chars.specs.declared.Cursor.{Cursor}
use Rattle.text_scan.specs.Scan.{EndIs}
use Rattle.doc_items.specs.Moving.{move-spells, move-pieces}
use Rattle.text_chars.specs.Parts.{part, back, part_length, back-length, back_below}
use Rattle.doc_items.specs.Parts.{numbers, agree-kept, grown-kept}
use Rattle.read_values.specs.declared.Run.{Run}
use Rattle.read_grammar.specs.Limits.Limits.{nesting_of}
use Rattle.read_values.specs.Pieces.Pieces.{Refuses, FinishValueAsked, Finished, FinishIs}
use Rattle.read_values.specs.declared.pieces.Valued.{Valued}
use Rattle.read_values.specs.declared.pieces.ValueStep.{ValueStep}
use Rattle.read_cycle.specs.Clauses.{Free, Asked, Value, ValueIs, StepAsked, Stepped, MoreRead, StepIs}
use Rattle.read_cycle.specs.Measures.{need}
use Rattle.read_cycle.proofs.Pieces as P
use Rattle.read_cycle.proofs.ValueRuns.{ValueInv, value-start, value-turn, value_none, value-odd, value-is, value-reached, value-shown, value-fits}

-- the loop's invariant
pub record Inv (s : List ℕ) (at₀ left items₀ : ℕ) (table₀ text₀ : List ℕ) (at from items used : ℕ) (run : Run) (table text : List ℕ) : Type 0 where
  pub is : ValueInv s at₀ left items₀ table₀ text₀ at from items used run table text
  pub asked : Asked s at₀ left items₀ table₀ text₀

pub starts : {s : List ℕ} {at left items : ℕ} {table text : List ℕ} {place : DocAt} → Asked s at left items table text
    → Inv s at left items table text at at items (2 * at) (record { count = 0; kind = 0; subs = false; odd = false; place = place }) table text
starts a = record { is = value-start a refl refl refl; asked = a }

module _ {s : List ℕ} {at₀ left items₀ : ℕ} {table₀ text₀ : List ℕ} {at from items used : ℕ} {run : Run} {x t : List ℕ}
    (I : Inv s at₀ left items₀ table₀ text₀ at from items used run x t) where
  a : Asked s at₀ left items₀ table₀ text₀
  a = I.asked

  J : ValueInv s at₀ left items₀ table₀ text₀ at from items used run x t
  J = I.is

  pub in_table : 8 * (items - items₀) ≤ length x
  in_table = omega (arith, a.table-room, J.kept_table, J.few, J.more)

  pub in-text : used - 2 * at₀ ≤ length t
  in-text = omega (arith, a.text-room, J.kept-text, J.used_high, J.used_low, J.gap, J.inside)

  pub short : length s ≤ 32768
  short = a.short

  pub enough : items₀ ≤ items
  enough = J.more

  pub used-more : 2 * at₀ ≤ used
  used-more = J.used_low

  pub asks-step : StepAsked s at from used run left items (part (8 * (items - items₀)) x) (part (used - 2 * at₀) t)
  asks-step = record {
    short = a.short;
    inside = J.inside;
    forward = J.gap;
    nested = a.nested;
    few = J.few;
    before = J.used_high;
    counted = J.count;
    table-room = omega (arith, a.table-room, J.kept_table, J.more, in_table, part_length (8 * (items - items₀)) x);
    text-room = omega (arith, a.text-room, J.kept-text, in-text, J.used_low, part_length (used - 2 * at₀) t);
  }

  pub falls : (n : ℕ) → need 3 s at₀ ≡ n → need 2 s at < n
  falls n e = omega (arith, J.behind, J.gap, J.inside)

  pub asks-finish : FinishValueAsked s at (2 * at₀) used
  asks-finish = record { short = a.short; inside = J.inside; forward = J.used_low }

  module _ {y z : List ℕ} {r : Result (Option ValueStep) Refusal} (m : StepIs s at from used run left items (part (8 * (items - items₀)) x) (part (used - 2 * at₀) t) y z r) where
    kept_table : length (back (8 * (items - items₀)) x y) ≡ length table₀
    kept_table = back-length (8 * (items - items₀)) x y in_table m.kept_table ∙ J.kept_table

    kept-text : length (back (used - 2 * at₀) t z) ≡ length text₀
    kept-text = back-length (used - 2 * at₀) t z in-text m.kept-text ∙ J.kept-text

    first : (start : Start) → start_of s at ≡ some start → (start' : Start) × (start_of s at₀ ≡ some start')
    first start e = go (eqb run.count 0) refl
      where
        go : (b : Bool) → eqb run.count 0 ≡ b → (start' : Start) × (start_of s at₀ ≡ some start')
        go true h = (start, ap (start_of s) (sym (J.first (eqb-true run.count 0 h)).0) ∙ e)
        go false h = let b = J.begun (eqb-false run.count 0 h) in (b.0, b.1)

    pub refused : {d : Refusal} → r ≡ Err d
        → ValueIs s at₀ left items₀ table₀ text₀ (back (8 * (items - items₀)) x y) (back (used - 2 * at₀) t z) (Err d)
    refused {d} e =
        let u : Stepped s at from used run left items y z (Err d) = rw e at m.is in
        let whole = P.rest-refused (piece_at (value_in s) s (nesting_of left)) s J.rest u.1 u.2.1 in
        let f = first u.0 u.1 in
        let l : 1 ≤ nesting_of left = omega (arith, a.nested) in
        record {
          is = (
            u.2.0,
            value-pieces s (nesting_of left) at₀ items₀ l (omega arith) f.0 f.1 ∙ ap (λ (q : Read Pieces). read_then q judge_value) whole,
            u.2.2,
            u.2.3,
          );
          kept_table = kept_table;
          kept-text = kept-text;
        }

    pub again : {d : Cursor} {o : Option ValueStep} {v : ValueStep} → r ≡ Ok o → o ≡ Some v → EndIs s v.next.at.0 (after_inline s v.next.at.0) d
        → Inv s at₀ left items₀ table₀ text₀ d.at.0 v.next.at.0 v.items v.used.0 v.run (back (8 * (items - items₀)) x y) (back (used - 2 * at₀) t z)
    again {d} {o} {v} f g h =
        let u : MoreRead s at from used run left items y z v.next v.items v.run v.used.0 = rw (f, g) at m.is in
        record { is = value-turn J a u m.kept_table m.kept-text d.at.0 h.is h.forward h.inside; asked = a }

    pub space : {o : Option ValueStep} {v : ValueStep} → r ≡ Ok o → o ≡ Some v → v.next.at.0 ≤ length s
    space {o} {v} f g = let u : MoreRead s at from used run left items y z v.next v.items v.run v.used.0 = rw (f, g) at m.is in u.reached.inside

    pub less : {d : Cursor} {o : Option ValueStep} {v : ValueStep} → r ≡ Ok o → o ≡ Some v → EndIs s v.next.at.0 (after_inline s v.next.at.0) d
        → length s - d.at.0 < length s - at
    less {d} {o} {v} f g h =
        let u : MoreRead s at from used run left items y z v.next v.items v.run v.used.0 = rw (f, g) at m.is in
        omega (arith, u.reached.forward, h.forward, h.inside)

    -- ---- the end

    -- nothing that was read has changed
    same : ValueInv s at₀ left items₀ table₀ text₀ at from items used run (back (8 * (items - items₀)) x y) (back (used - 2 * at₀) t z)
    same = record {
      done = J.done;
      rest = J.rest;
      run_of = J.run_of;
      held =
          let e : 0 + 0 ≡ 0 = omega arith in
          let f : items - items₀ + 0 ≡ items - items₀ = omega arith in
          rw (e, f) at (move-pieces Free (numbers x) (numbers (back (8 * (items - items₀)) x y))
          (grown-kept t z (2 * at₀) (used - 2 * at₀) in-text (2 * at₀) used (2 * at₀) used (omega arith) (omega (arith, J.used_low)) (omega arith) (omega arith))
          0 J.done 0 (items - items₀) (agree-kept x y (items - items₀) in_table 0 (items - items₀) (omega arith)) J.held);
      texts = λ u v.
          let o = J.texts u v in (
            o.0,
            move-spells (2 * at₀) (text_joined J.done) (λ p k l. sym (back_below (used - 2 * at₀) t z (p - 2 * at₀) in-text (omega (arith, o.0)))) o.1,
            o.2,
          );
      first = J.first;
      begun = J.begun;
      behind = J.behind;
      gap = J.gap;
      inside = J.inside;
      more = J.more;
      few = J.few;
      used_low = J.used_low;
      used_high = J.used_high;
      count = J.count;
      kept_table = kept_table;
      kept-text = kept-text;
    }

    module _ (e : r ≡ Ok None) {v : Result Valued Refusal} (h : FinishIs s at run items (2 * at₀) used v) where
      stops : start_of s at ≡ none
      stops = let u : Stepped s at from used run left items y z (Ok None) = rw e at m.is in u

      bad : (d : Refusal) → Finished s at J.done items (2 * at₀) used (Err d)
          → Refuses (value_in s (nesting_of left) at₀ items₀) d.number d.place
      unfolding same J
      bad d (inl u) = (not_allowed s at, value_none same a stops u.0, u.1, u.2)
      bad d (inr u) = (placed 11 d.place.0, value-odd same a stops u.1, u.0, refl)

      go : (q : Result Valued Refusal) → v ≡ q
          → Value s at₀ left items₀ (back (8 * (items - items₀)) x y) (back (used - 2 * at₀) t z) q
      unfolding same J
      go (Ok o) f =
          let u : Finished s at J.done items (2 * at₀) used (Ok o) = rw f at (h.is J.done J.run_of) in
          let i : o.next.at.0 ≡ at = u.0 in
          let j : o.items ≡ items = u.1 in
          let v = u.2 in
          let comes = v.2 in
          let fits = value-fits same a stops comes v.3 v.4 v.5 in
          rw (i, j) (
            v.1,
            value-is same a stops comes v.3 v.4 v.5,
            value-reached same a stops comes v.3 v.4 v.5,
            fits.0,
            fits.1,
            fits.2,
            value-shown same a stops comes v.3 v.4 v.5,
          )
      go (Err d) f =
          let u : Finished s at J.done items (2 * at₀) used (Err d) = rw f at (h.is J.done J.run_of) in
          bad d u

      pub ends : ValueIs s at₀ left items₀ table₀ text₀ (back (8 * (items - items₀)) x y) (back (used - 2 * at₀) t z) v
      ends = record { is = go v refl; kept_table = kept_table; kept-text = kept-text }

pub ruleset a-value = (starts, short, in_table, in-text, enough, used-more, asks-step, falls, asks-finish, refused, again, space, less, ends)
