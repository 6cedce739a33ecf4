-- Laws of the next number.
use mathlib.Core.Path.{◌≡◌, refl, sym, ap, ◌∙◌}
use Prim.Native.Nat.{ℕ, ◌+◌, ◌≤◌, ◌<◌}
use mathlib.Core.List.{List}
use mathlib.Core.Option.{Option, none, some}
use native.Mathlib.Omega.{arith}
use lib.ListN.{length, get_or}
use Rattle.std.specs.Prelude.{Some, None}
use Rattle.answers.specs.Ask.{Trail, lookup}
use Rattle.rules.specs.Values.{Answer}
use Rattle.rules.specs.Sheet.{pair_at, trail_size}
use Rattle.theory_check.specs.Steps.{next_number, check-twice, check-past, check-short}
use Rattle.doc_items.specs.Room.{answers_at}
use Rattle.doc_items.specs.Writing.{ReadIs}
use Rattle.sheet_records.specs.Kinds.Contracts.{PairIs, Lent}
use Rattle.eval_memory.specs.Finished.{Memory}
use Rattle.eval_state.specs.Memories.{answers_of}
use Rattle.eval_state.specs.State.{AnswerIn}
use Rattle.check_entries.specs.Clauses.{NextAsked, NextIs}

-- ---- what the table has of an answer

none_yet : (M : Memory) (S : Trail Answer) (b : ℕ) (k : Option Answer) (a : ℕ) → AnswerIn M S b k a → a ≡ 0 → k ≡ none
none_yet M S b none a h e = refl
none_yet M S b (some none) a h e = absurd (omega (arith, h))
none_yet M S b (some (some v)) a h e = absurd (omega (arith, h.0))

answered : (M : Memory) (S : Trail Answer) (b : ℕ) (k : Option Answer) (a : ℕ) → AnswerIn M S b k a → (a ≡ 0 → ⊥)
    → (c : Answer) × (k ≡ some c)
answered M S b none a h f = absurd (f h)
answered M S b (some c) a h f = (c, refl)

-- ---- the number

module _ {trail : List ℕ} {u count : ℕ} (A : NextAsked trail u count) where
  pub number-lent : Lent trail (u + 1)
  number-lent = (A.short, omega (arith, A.inside, A.short))

  pub next-short : {T : List ℕ} → length trail < u + 3 → NextIs T trail u count None
  next-short l = record {
    is = λ x key items B text S H C e m n table. check-short C table (omega arith) (omega arith);
    inside = tt;
  }

  module _ {b : ℕ} (P : PairIs trail (u + 1) b) where
    number_is : (S : Trail Answer) → u ≡ trail_size S → b ≡ next_number trail S
    number_is S e = P.is ∙ ap (λ (n : ℕ). pair_at trail (n + 1)) e

    pub next_past : {T : List ℕ} → count ≤ b → NextIs T trail u count None
    next_past l = record {
      is = λ x key items B text S H C e m n table.
          let q : b ≡ next_number trail S = number_is S e in
          check-past C table (omega arith) (omega (arith, q, n));
      inside = tt;
    }

    module _ {T : List ℕ} (l : b < count) {a : ℕ} (R : ReadIs T (answers_at + b) a) where
      pub next-answered : (a ≡ 0 → ⊥) → NextIs T trail u count None
      next-answered f = record {
        is = λ x key items B text S H C e m n table.
            let q : b ≡ next_number trail S = number_is S e in
            let (c, h) = answered (answers_of key items T B) S b (lookup S b) (get_or T (answers_at + b) 0) (H.answers b (omega (arith, A.few)))
            (λ z. f (R.is ∙ z)) in
            check-twice C table (omega arith) c (ap (lookup S) (sym q) ∙ h);
        inside = tt;
      }

      pub next-number : u + 3 ≤ length trail → a ≡ 0 → NextIs T trail u count (Some b)
      next-number k z = record {
        is = λ x key items B text S H C e m n. record {
          is = number_is S e;
          new = none_yet (answers_of key items T B) S b (lookup S b) (get_or T (answers_at + b) 0) (H.answers b (omega (arith, A.few))) (sym R.is ∙ z);
          inside = omega arith;
        };
        inside = (l, k);
      }

pub ruleset numbers = (number-lent, next-short, next_past, next-answered, next-number)
