-- Laws of working a question out: of its loop, and of its ends.
use mathlib.Core.Path.{◌≡◌, refl, sym, ap, ◌∙◌}
use mathlib.Core.List.{List, []}
use Prim.Native.Nat.{ℕ, ◌≤◌, ◌<◌}
use native.Mathlib.Omega.{arith}
use lib.ListN.{length, take}
use Rattle.std.specs.Prelude.{Result, Ok, Err}
use Rattle.answers.specs.Resolve.{refused}
use Rattle.answers.specs.Theory.AheadTurns.{numbers, scanned, first-scanned}
use Rattle.rules.specs.Refusals.{Refusal}
use Rattle.theory_order.specs.Turns.{stacked-length}
use Rattle.theory_order.specs.Running.{running-start}
use Rattle.theory_order.specs.Clauses.{questions_of, rules_of}
use Rattle.theory_order.specs.WorkLaws.{work-begins, work-barred}
use Rattle.text_chars.specs.declared.Refusal.{Refusal as Refused}
use Rattle.eval_groups.specs.Clauses.{Below}
use Rattle.eval_state.specs.Later.{later_same}
use Rattle.eval_results.specs.Sizes.Outcomes.{OutcomeWithin}
use Rattle.eval_results.specs.declared.sizes.Outcome.{Outcome}
use Rattle.eval_trail.specs.declared.Progress.{Progress}
use Rattle.eval_trail.specs.Turns.Contracts.{list_room, TurnAsked, TurnIs, ItemIs}
use Rattle.eval_trail.specs.declared.turns.Next.{Next}
use Rattle.eval_outcomes.specs.Newest.Contracts.{NewestAsked, NewestIs}
use Rattle.eval_outcomes.specs.Refusals.Contracts.{RefusalAsked, RefusesAs, RefusalIs}
use Rattle.eval_question_laws.specs.Work.{Lent, WorkAsked, Works, WorkIs}
use Rattle.eval_work.specs.Clauses.{OlderAsked, OlderIs}
use Rattle.eval_work.proofs.Standing.{numbers-length, listed-oldest, turns_at, Come, Pending, Refuses}
use Rattle.eval_work.proofs.Turns.{turn-asks, turn-some, turn_on, turn-ends, turn-refused}
use Rattle.eval_work.proofs.Questions.{refusal-posed, refusal-asked, question-asked, question-pends}

pub record LoopInv (E : List ℕ) (base b : ℕ) (p₀ : Progress) (budget : ℕ) (T₀ B₀ w₀ room₀ trail₀ text₀ L₀ T B w room trail text L : List ℕ) (n : ℕ) (p : Progress)
    (o : Outcome) : Type 0 where
  pub asked : WorkAsked T₀ B₀ E w₀ room₀ trail₀ text₀ base b p₀ budget
  pub lent : Lent B E w room base
  pub long : list_room ≤ length L
  pub same-table : length T ≡ length T₀
  pub same_bytes : length B ≡ length B₀
  pub same-work : length w ≡ length w₀
  pub same-room : length room ≡ length room₀
  pub same-trail : length trail ≡ length trail₀
  pub same_text : length text ≡ length text₀
  pub same-list : length L ≡ length L₀
  pub below : Below base w₀ w
  pub within : OutcomeWithin o
  pub is : {room₁ : List ℕ} (a : WorkAsked T₀ B₀ E w₀ room₁ trail₀ text₀ base b p₀ budget) → Pending a T B room trail text L n p o

module _ {T₀ B₀ E w₀ room₀ trail₀ text₀ : List ℕ} {base b : ℕ} {p₀ : Progress} {budget : ℕ}
    (A : WorkAsked T₀ B₀ E w₀ room₀ trail₀ text₀ base b p₀ budget) where
  pub loop-starts : (L : List ℕ) → list_room ≤ length L
      → LoopInv E base b p₀ budget T₀ B₀ w₀ room₀ trail₀ text₀ L T₀ B₀ w₀ room₀ trail₀ text₀ L 0 p₀ (Outcome.Needs b)
  loop-starts L l = record {
    asked = A;
    lent = A.lent;
    long = l;
    same-table = refl;
    same_bytes = refl;
    same-work = refl;
    same-room = refl;
    same-trail = refl;
    same_text = refl;
    same-list = refl;
    below = λ i l h. refl;
    within = tt;
    is = λ a. record {
      stands =
          record {
            begun = [];
            S = a.S;
            count = a.n;
            listed = tt;
            many = refl;
            running = running-start (rules_of a.t) a.t.budget (questions_of a.t) a.S a.n a.kept;
            holding = a.holding;
            later = later_same T₀ B₀ a.S;
          };
      rises = omega arith;
      due =
          record {
            low = a.low;
            new = a.new;
            begins = λ f. work-begins a.t a.holding.state.document.read b a.S a.n a.low a.new a.kept f;
            barred = λ y f. work-barred a.t a.holding.state.document.read b a.S a.n a.low a.new y f;
          };
    };
  }

module _ {E : List ℕ} {base b : ℕ} {p₀ : Progress} {budget : ℕ} {T₀ B₀ w₀ room₀ trail₀ text₀ L₀ T B w room trail text L : List ℕ} {n : ℕ} {p : Progress} {o : Outcome}
    (I : LoopInv E base b p₀ budget T₀ B₀ w₀ room₀ trail₀ text₀ L₀ T B w room trail text L n p o) where
  abbrev A : WorkAsked T₀ B₀ E w₀ room₀ trail₀ text₀ base b p₀ budget
  A = I.asked

  pub loop-asked : TurnAsked T B room o L n p budget trail text
  loop-asked = record { is = turn-asks A (I.is A) I.long I.lent.whole I.within }

  pub older-asked : OlderAsked o n
  older-asked = record { is = turn-some A (I.is A) I.long }

  module _ {T' B' L' trail' text' : List ℕ} {r : Result Next Refused} (G : TurnIs room o n p budget T T' B B' L L' trail trail' text text' r) where
    lent-then : {w' B'' room' : List ℕ} → length B'' ≡ length B₀ → Lent B E w' room' base → Lent B'' E w' room' base
    lent-then e l = record {
      whole = l.whole;
      bytes = omega (arith, A.lent.bytes);
      environment = l.environment;
      work = l.work;
      used = l.used;
    }

    -- ---- the ends

    pub work-ends : {t : Next} → r ≡ Ok t → t.count ≡ 0 → WorkIs E base b p₀ budget T₀ T' B₀ B' w₀ w trail₀ trail' text₀ text' (Ok t.at)
    work-ends f g = record { below = I.below; is = λ a. turn-ends a (I.is a) I.long G f g }

    module _ {x : Refused} (f : r ≡ Err x) (l : length L' ≡ length L) {m : ℕ} (M : OlderIs o n m) where
      refuses : {room₁ : List ℕ} (a : WorkAsked T₀ B₀ E w₀ room₁ trail₀ text₀ base b p₀ budget) → Refuses a T' B' L' m x.number x.place.0
      refuses a = rw M.is (turn-refused a (I.is a) I.long G f)

      pub revise-asked : RefusalAsked T' B' E w room L' base m
      revise-asked = refusal-asked A (refuses A) (lent-then (refuses A).bytes I.lent) (omega (arith, I.long))

      pub work-refuses : {w' B'' : List ℕ} {r' : Refused} → RefusalIs T' E L' base m x.number x.place.0 w w' B' r'
          → WorkIs E base b p₀ budget T₀ T' B₀ B'' w₀ w' trail₀ trail' text₀ text' (Err r')
      work-refuses {w'} {B''} {r'} R = record {
        below = λ i y h. R.left.below i y h ∙ I.below i y h;
        is = λ a. came a r' (R.is a.t a.key a.items (refuses a).S (refusal-posed a (refuses a)) (refuses a).refusal (refuses a).its-number (refuses a).its-place);
      }
        where
          came : {room₁ : List ℕ} (a : WorkAsked T₀ B₀ E w₀ room₁ trail₀ text₀ base b p₀ budget) (r' : Refused)
              → RefusesAs (scanned (rules_of a.t) (take m L') (refuses a).S (refuses a).refusal) r' → Works a T' B'' trail' text' (Err r')
          came a r' z =
              let k = refuses a in
              let few = stacked-length (questions_of a.t) (numbers k.older) k.stacked in
              let old = listed-oldest (rules_of a.t) a.t.setting T₀ L' k.older (omega (arith, numbers-length k.older, k.state.document.read.at_most, I.long)) k.listed in
              record {
                refusal = scanned (rules_of a.t) (take m L') k.S k.refusal;
                is = k.is
                    ∙ ap (λ (y : Refusal). refused y)
                    (first-scanned (rules_of a.t) (numbers k.older) k.S k.refusal
                    ∙ ap (λ (qs : List ℕ). scanned (rules_of a.t) qs k.S k.refusal) (old ∙ ap (λ (i : ℕ). take i L') (sym k.many)));
                its-number = z.0;
                its-place = z.1;
              }

    -- ---- the loop goes on

    module _ {t : Next} (f : r ≡ Ok t) (g : t.count ≡ 0 → ⊥) where
      abbrev m : ℕ
      m = t.count

      abbrev p' : Progress
      p' = t.at

      come : {room₁ : List ℕ} (a : WorkAsked T₀ B₀ E w₀ room₁ trail₀ text₀ base b p₀ budget) → Come a T' B' trail' text' L' m p'
      come a = (turn_on a (I.is a) I.long G f g).0

      pub loop-some : 0 < m
      loop-some = (come A).some

      pub loop-less : turns_at budget m p' < turns_at budget n p
      loop-less = (turn_on A (I.is A) I.long G f g).1

      module _ (l : length L' ≡ length L) {item : ℕ} (D : ItemIs T' L' m item) where
        lent : Lent B' E w room base
        lent = lent-then (come A).stands.later.document.bytes I.lent

        long : list_room ≤ length L'
        long = omega (arith, I.long)

        pub newest-asked : NewestAsked B' E w room L' base m item
        newest-asked = question-asked A (come A) D lent long

        pub loop-goes : {w' B'' L'' room' : List ℕ} {o' : Outcome} → NewestIs T' E base m item w w' B' B'' L' L'' o' room' → length T' ≡ length T
            → length L'' ≡ length L' → length room' ≡ length room → length trail' ≡ length trail → length text' ≡ length text
            → LoopInv E base b p₀ budget T₀ B₀ w₀ room₀ trail₀ text₀ L₀ T' B'' w' room' trail' text' L'' m p' o'
        loop-goes {w'} {B''} {L''} {room'} {o'} O a₁ a₂ a₃ a₄ a₅ = record {
          asked = A;
          lent = record {
            whole = O.whole;
            bytes = omega (arith, lent.bytes, O.bytes);
            environment = lent.environment;
            work = omega (arith, O.left.len, lent.work);
            used = lent.used;
          };
          long = omega (arith, long);
          same-table = a₁ ∙ I.same-table;
          same_bytes = O.bytes ∙ (come A).stands.later.document.bytes;
          same-work = O.left.len ∙ I.same-work;
          same-room = a₃ ∙ I.same-room;
          same-trail = a₄ ∙ I.same-trail;
          same_text = a₅ ∙ I.same_text;
          same-list = a₂ ∙ l ∙ I.same-list;
          below = λ i y h. O.left.below i y h ∙ I.below i y h;
          within = O.within;
          is = λ a. question-pends a (come a) D O long;
        }

pub ruleset works = (loop-starts, loop-asked, older-asked, work-ends, revise-asked, work-refuses, loop-some, loop-less, newest-asked, loop-goes)
