-- Laws of checking the table.
use mathlib.Core.Path.{◌≡◌, refl, sym, ap, ◌∙◌}
use Prim.Native.Nat.{ℕ, ◌+◌, ◌^◌, ◌≤◌, ◌<◌}
use mathlib.Core.Bool.{Bool, true, false, ◌&&◌}
use mathlib.Core.List.{List}
use native.Mathlib.Omega.{arith}
use lib.Dec.{leb}
use lib.ListN.{length, take, drop, length-drop}
use lib.Seq.{take_all, length-take-le}
use borrow.Author.Tests.{leb-true}
use Rattle.answers.specs.Theory.Sound.{clash}
use Rattle.rules.specs.Bytes.{Text}
use Rattle.rules.specs.Sizes.{max_nesting, max_records, max_text}
use Rattle.rules.specs.Values.{record_size, text_size, within_size}
use Rattle.rules.specs.Sheet.{records, texts}
use Rattle.theory.specs.Layout.{both_true, length-texts}
use Rattle.theory_check.specs.Steps.{root-large, table-length, text-length, table-differs, check-accepts}
use Rattle.sheet_kept.specs.Kept.{Held, named, layout}
use Rattle.sheet_kept.proofs.Sizes.{kept-records}
use Rattle.sheet_sizes.specs.Clauses.{WithinIs}
use Rattle.sheet_sizes.specs.declared.Sizes.{Sizes}
use Rattle.eval_writer.specs.Clauses.{InRoom}
use Rattle.eval_writer.specs.declared.Out.{Out}
use Rattle.eval_store.specs.Values.Contracts.{LayAsked}
use Rattle.eval_store.specs.Compare.Contracts.{SameValueIs}
use Rattle.check_entries.specs.Tables.Contracts.{Evaluated, TableAsked, TableIs}

-- the sizes as they are tested
abbrev sizes_of : Out → Sizes
sizes_of o = record { rec = record { 0 = o.rec.0 }; text = record { 0 = o.text.0 } }

whole-rest : (n t : ℕ) (text : List ℕ) → length text ≡ t + n → take n (drop t text) ≡ drop t text
whole-rest n t text e = take_all n (drop t text) (omega (arith, length-drop t text))

module _ {room : List ℕ} {o : Out} {deep t : ℕ} {text : List ℕ} (A : TableAsked room t text) {w : Bool} (W : WithinIs deep (sizes_of o) w) where
  -- over its size
  pub over-size : {table : List ℕ} → w ≡ false → TableIs room o deep t table text false
  over-size {table} e = record {
    is = λ x trail S key v C full u runs E. sym (root-large C table full (named key v) runs (sym E.within ∙ sym W.is ∙ e));
  }

  module _ (e : w ≡ true) where
    rec-in : o.rec.0 ≤ max_records
    rec-in =
        leb-true o.rec.0 max_records
        (both_true (leb deep max_nesting) (leb o.rec.0 max_records)
        (both_true (leb deep max_nesting && leb o.rec.0 max_records) (leb o.text.0 max_text) (sym W.is ∙ e)).0).1

    text_in : o.text.0 ≤ max_text
    text_in =
        leb-true o.text.0 max_text
        (both_true (leb deep max_nesting && leb o.rec.0 max_records) (leb o.text.0 max_text) (sym W.is ∙ e)).1

    module _ {key : ℕ → Text} {v : Held} (E : Evaluated key v room o deep) where
      there : InRoom key v room o
      there = E.in-room rec-in text_in

      small : within_size (named key v) ≡ true
      small = sym E.within ∙ sym W.is ∙ e

      -- the counters are the value's sizes
      rec-is : record_size (named key v) ≡ o.rec.0
      rec-is =
          sym (kept-records key 0 v) ∙ sym (ap length there.records)
          ∙ length-take-le o.rec.0 room (omega (arith, A.whole, rec-in))

      text-is : text_size (named key v) ≡ o.text.0
      text-is =
          sym (length-texts (named key v)) ∙ sym (ap length there.texts)
          ∙ length-take-le o.text.0 (drop max_records room) (omega (arith, A.whole, text_in, length-drop max_records room))

    pub other_length : {table : List ℕ} → (length table ≡ o.rec.0 → ⊥) → TableIs room o deep t table text false
    other_length {table} f = record {
      is = λ x trail S key v C full u runs E. sym (table-length C table full (named key v) runs (λ q. f (q ∙ rec-is E)));
    }

    pub other_text : {table : List ℕ} → (length text ≡ t + o.text.0 → ⊥) → TableIs room o deep t table text false
    other_text {table} f = record {
      is = λ x trail S key v C full u runs E.
          sym (text-length C table full (named key v) runs (λ q. f (q ∙ ap (λ (n : ℕ). n + text_size (named key v)) (sym u) ∙ ap (λ (n : ℕ). t + n) (text-is E))));
    }

    pub sum_fits : t + o.text.0 < 2 ^ 64
    sum_fits = omega (arith, A.inside, A.short, text_in)

    module _ {table : List ℕ} (long : length table ≡ o.rec.0) (wide : length text ≡ t + o.text.0) where
      pub value-asked : LayAsked room o t table text
      value-asked = record {
        full = record { whole = A.whole; rec = rec-in; text = text_in };
        few = omega (arith, A.inside, A.short);
        records = omega arith;
        texts = omega arith;
      }

      -- a part that has this length is its own beginning
      table_is : take o.rec.0 table ≡ table
      table_is = take_all o.rec.0 table (omega arith)

      pub compared_same : SameValueIs room o t table text true → TableIs room o deep t table text true
      unfolding layout
      compared_same K = record {
        is = λ x trail S key v C full u runs E.
            let z = (K.same key v (there E)).0 refl in
            sym (check-accepts C table full (named key v) runs (small E)
            (sym table_is ∙ z.0 ∙ ap (λ (n : ℕ). records n (named key v)) u) (ap (λ (n : ℕ). drop n text) (sym u) ∙ sym (whole-rest o.text.0 t text wide) ∙ z.1));
      }

      pub compared-differs : SameValueIs room o t table text false → TableIs room o deep t table text false
      unfolding layout
      compared-differs K = record {
        is = λ x trail S key v C full u runs E.
            sym (table-differs C table full (named key v) runs (λ q.
            clash (cc ((K.same key v (there E)).1 (
              table_is ∙ q.0 ∙ ap (λ (n : ℕ). records n (named key v)) (sym u),
              whole-rest o.text.0 t text wide ∙ ap (λ (n : ℕ). drop n text) u ∙ q.1,
            )))));
      }

      pub compared : {r : Bool} → SameValueIs room o t table text r → TableIs room o deep t table text r
      compared {r} K = by_answer r K
        where
          by_answer : (r : Bool) → SameValueIs room o t table text r → TableIs room o deep t table text r
          by_answer true K = compared_same K
          by_answer false K = compared-differs K

pub ruleset tables = (over-size, other_length, other_text, sum_fits, value-asked, compared)
