-- Laws of checking an entry.
use mathlib.Core.Path.{◌≡◌, refl, sym, ap, subst, ◌∙◌}
use Prim.Native.Nat.{ℕ, ◌+◌, ◌^◌, ◌≤◌, ◌<◌}
use mathlib.Core.Bool.{Bool, true, false}
use mathlib.Core.List.{List, ◌∷◌}
use mathlib.Core.Option.{none, some}
use native.Mathlib.Omega.{arith}
use lib.ListN.{length, take, drop, length-drop}
use lib.Seq.{length-take-le}
use Rattle.std.specs.Prelude.{Some, None}
use Rattle.answers.specs.Ask.{Trail, lookup, value, run}
use Rattle.answers.specs.Theory.Sound.{clash}
use Rattle.rules.specs.Bytes.{Text}
use Rattle.rules.specs.Sizes.{max_records}
use Rattle.rules.specs.Values.{Answer, record_size, text_size}
use Rattle.rules.specs.Documents.{Setting, rule_of}
use Rattle.rules.specs.Sheet.{texts, entry_record, answer_texts, entry_size, answer_text_size, trail_size, trail_text_size}
use Rattle.theory.specs.Layout.{length-texts}
use Rattle.theory_check.specs.Begins.{EntryAt}
use Rattle.theory_check.specs.Steps.{next_number, check-more, check-differs, check-over, check-text-over}
use Rattle.text_chars.specs.Parts.{part, part-is, part_length}
use Rattle.sheet_kept.specs.Kept.{Held, named}
use Rattle.sheet_kept.proofs.Sizes.{kept-records}
use Rattle.eval_writer.specs.Clauses.{InRoom}
use Rattle.eval_writer.specs.declared.Out.{Out}
use Rattle.eval_store.specs.Values.Contracts.{Full}
use Rattle.eval_store.specs.Compare.Contracts.{EntryAsked, SameEntryIs, SameUndefinedIs}
use Rattle.eval_state.specs.Clauses as kept
use Rattle.check_entries.specs.Clauses.{Right, Open, AnswerAsked, AnswerIs, UndefinedAsked, UndefinedIs}
use Rattle.check_entries.specs.declared.Reached.{Reached}

abbrev reached : ℕ → ℕ → Reached
reached u t = record { used = record { 0 = u }; text = record { 0 = t } }

-- the counters are the value's sizes
module _ {room : List ℕ} {o : Out} {key : ℕ → Text} {v : Held} (f : Full room o) (i : InRoom key v room o) where
  records-are : record_size (named key v) ≡ o.rec.0
  records-are =
      sym (kept-records key 0 v) ∙ sym (ap length i.records) ∙ length-take-le o.rec.0 room (omega (arith, f.whole, f.rec))

  texts-are : text_size (named key v) ≡ o.text.0
  texts-are =
      sym (length-texts (named key v)) ∙ sym (ap length i.texts)
      ∙ length-take-le o.text.0 (drop max_records room) (omega (arith, f.whole, f.text, length-drop max_records room))

-- ---- an answer

module _ {T B room : List ℕ} {o : Out} {b : ℕ} {at : Reached} {trail text : List ℕ} (A : AnswerAsked T B room o b at trail text) where
  abbrev u : ℕ
  u = at.used.0

  abbrev t : ℕ
  t = at.text.0

  module _ {x : Setting} {key : ℕ → Text} {items : ℕ} {S : Trail Answer} {v : Held} (R : Right x key items T B trail text at S) (N : Open x trail S b)
      (runs : run (lookup S) (rule_of x b) ≡ value (some (named key v))) (F : kept.Finished key items T room o v) where
    more : trail_size S < length trail
    more = omega (arith, R.used, A.entry)

    runs-next : run (lookup S) (rule_of x (next_number trail S)) ≡ value (some (named key v))
    runs-next = ap (λ (n : ℕ). run (lookup S) (rule_of x n)) (sym N.is) ∙ runs

    entry-size : entry_size (some (named key v)) ≡ 3 + o.rec.0
    unfolding entry_size
    entry-size = ap (λ (n : ℕ). 3 + n) (records-are A.full F.in-room)

    text-size : answer_text_size (some (named key v)) ≡ o.text.0
    unfolding answer_text_size
    text-size = texts-are A.full F.in-room

    -- the entry there, as it is compared
    module _ {r : Bool} (K : SameEntryIs room o b t (part u trail) text r) where
      entry-there : r ≡ true → EntryAt trail text S b (some (named key v))
      unfolding answer_texts
      entry-there e =
          let z = (K.same key v F.in-room).0 e in
          record {
            records =
                ap (λ (n : ℕ). take n (drop (trail_size S) trail)) entry-size
                ∙ ap (λ (n : ℕ). take (3 + o.rec.0) (drop n trail)) (sym R.used)
                ∙ ap (take (3 + o.rec.0)) (sym (part-is u trail))
                ∙ z.0
                ∙ ap (λ (n : ℕ). entry_record n b (some (named key v))) R.text-used;
            texts =
                ap (λ (n : ℕ). take n (drop (trail_text_size S) text)) text-size
                ∙ ap (λ (n : ℕ). take o.text.0 (drop n text)) (sym R.text-used)
                ∙ z.1;
          }

      there-same : EntryAt trail text S b (some (named key v)) → r ≡ true
      unfolding answer_texts
      there-same E =
          (K.same key v F.in-room).1 (
            ap (take (3 + o.rec.0)) (part-is u trail)
                ∙ ap (λ (n : ℕ). take (3 + o.rec.0) (drop n trail)) R.used
                ∙ ap (λ (n : ℕ). take n (drop (trail_size S) trail)) (sym entry-size)
                ∙ E.records
                ∙ ap (λ (n : ℕ). entry_record n b (some (named key v))) (sym R.text-used),
            ap (λ (n : ℕ). take o.text.0 (drop n text)) R.text-used
                ∙ ap (λ (n : ℕ). take n (drop (trail_text_size S) text)) (sym text-size)
                ∙ E.texts,
          )

      differs : r ≡ false → EntryAt trail text S (next_number trail S) (some (named key v)) → ⊥
      differs e E = clash (cc (there-same (subst (λ (n : ℕ). EntryAt trail text S n (some (named key v))) (sym N.is) E)))

  -- the trail, or the text part, ends before it does
  pub answer-over : length trail < u + 3 + o.rec.0 → AnswerIs room o b at trail text T T B B None
  answer-over l = record {
    is = λ x key items S v R N runs F table.
        check-over R.check table (more R N runs F) (some (named key v)) (runs-next R N runs F) (omega (arith, R.used, entry-size R N runs F));
    further = tt;
  }

  pub answer-text-over : length text < t + o.text.0 → AnswerIs room o b at trail text T T B B None
  answer-text-over l = record {
    is = λ x key items S v R N runs F table.
        check-text-over R.check table (more R N runs F) (some (named key v)) (runs-next R N runs F) (omega (arith, R.text-used, text-size R N runs F));
    further = tt;
  }

  pub entry-fits-sum : u + 3 + o.rec.0 < 2 ^ 64
  entry-fits-sum = omega (arith, A.entry, A.trail-short, A.full.rec)

  pub text-fits-sum : t + o.text.0 < 2 ^ 64
  text-fits-sum = omega (arith, A.texts, A.text-short, A.full.text)

  module _ (l : u + 3 + o.rec.0 ≤ length trail) (m : t + o.text.0 ≤ length text) where
    pub answer-asked : EntryAsked room o t (part u trail) text
    answer-asked = record {
      full = A.full;
      few = omega (arith, A.texts, A.text-short);
      records = omega (arith, part_length u trail);
      texts = m;
    }

    pub keep-asked : kept.AnswerAsked T B room o b u t
    keep-asked = record {
      full = A.full;
      number = A.number;
      records = omega (arith, A.trail-short);
      texts = omega (arith, A.text-short);
      table = A.table;
      bytes = A.bytes;
    }

    module _ {r : Bool} (K : SameEntryIs room o b t (part u trail) text r) where
      pub answer-differs : r ≡ false → AnswerIs room o b at trail text T T B B None
      answer-differs e = record {
        is = λ x key items S v R N runs F table.
            check-differs R.check table (more R N runs F) (some (named key v)) (runs-next R N runs F) (differs R N runs F K e);
        further = tt;
      }

      pub answer-right : {T' B' : List ℕ} → r ≡ true → kept.AnswerIs room o b u t T T' B B'
          → AnswerIs room o b at trail text T T' B B' (Some (reached (u + 3 + o.rec.0) (t + o.text.0)))
      unfolding trail_size trail_text_size
      answer-right {T'} {B'} e Q = record {
        is = λ x key items S v R N runs F. (
          (b, some (named key v)) ∷ S,
          record {
            state = Q.kept x key items S v R.state R.used R.text-used F;
            check = check-more R.check b (some (named key v)) (more R N runs F) N.is N.new runs (entry-there R N runs F K e);
            used = omega (arith, R.used, entry-size R N runs F);
            text-used = omega (arith, R.text-used, text-size R N runs F);
          },
        );
        further = (omega arith, l, m);
      }

pub ruleset answers = (answer-over, answer-text-over, entry-fits-sum, text-fits-sum, answer-asked, keep-asked, answer-differs, answer-right)

-- ---- undefined

module _ {T : List ℕ} {b : ℕ} {at : Reached} {trail : List ℕ} (A : UndefinedAsked T b at trail) where
  abbrev from : ℕ
  from = at.used.0

  pub rest-long : 3 ≤ length (part from trail)
  rest-long = omega (arith, part_length from trail, A.entry)

  pub undefined-asked : kept.UndefinedAsked T b
  undefined-asked = record { number = A.number; table = A.table }

  module _ {r : Bool} (K : SameUndefinedIs b (part from trail) r) where
    module _ {x : Setting} {key : ℕ → Text} {items : ℕ} {B text : List ℕ} {S : Trail Answer} (R : Right x key items T B trail text at S) where
      none-there : r ≡ true → EntryAt trail text S b none
      unfolding entry_size answer_text_size answer_texts
      none-there e = record {
        records =
            ap (λ (n : ℕ). take 3 (drop n trail)) (sym R.used) ∙ ap (take 3) (sym (part-is from trail)) ∙ (K.same (trail_text_size S)).0 e;
        texts = refl;
      }

      there-none : EntryAt trail text S b none → r ≡ true
      unfolding entry_size
      there-none E = (K.same (trail_text_size S)).1 (ap (take 3) (part-is from trail) ∙ ap (λ (n : ℕ). take 3 (drop n trail)) R.used ∙ E.records)

    pub undefined-differs : r ≡ false → UndefinedIs b at trail T T None
    undefined-differs e = record {
      is = λ x key items B text S R N runs table.
          check-differs R.check table (omega (arith, R.used, A.entry)) none
          (ap (λ (n : ℕ). run (lookup S) (rule_of x n)) (sym N.is) ∙ runs)
          (λ E. clash (cc (there-none R (subst (λ (n : ℕ). EntryAt trail text S n none) (sym N.is) E))));
      further = λ text l. tt;
    }

    pub undefined-right : {T' : List ℕ} → r ≡ true → kept.UndefinedIs b T T'
        → UndefinedIs b at trail T T' (Some (reached (from + 3) at.text.0))
    unfolding trail_size trail_text_size entry_size answer_text_size
    undefined-right {T'} e Q = record {
      is = λ x key items B text S R N runs. (
        (b, none) ∷ S,
        record {
          state = Q.kept x key items B S R.state (omega (arith, R.used, A.entry, A.short));
          check = check-more R.check b none (omega (arith, R.used, A.entry)) N.is N.new runs (none-there R e);
          used = omega (arith, R.used);
          text-used = omega (arith, R.text-used);
        },
      );
      further = λ text l. (omega arith, A.entry, l);
    }

pub ruleset undefineds = (rest-long, undefined-asked, undefined-differs, undefined-right)
