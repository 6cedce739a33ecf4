-- The laws of `work`, branch by branch: what its loop keeps (`WorkAt`), and what each end of a turn makes of it. What the pieces of the newest
-- question need is looked for before its rules are run (`AheadTurns` of `answers`); the definition that `work` computes does not.
use Rattle.std.specs.Prelude.{◌≡◌, refl, ℕ, suc, ◌≤◌, ◌<◌, true, false, List, [], ◌∷◌}
use Rattle.std.proofs.Math.Path.{sym, ap}
use Rattle.std.proofs.Common.{◌∙◌}
use Rattle.std.proofs.Math.Option.{none, some}
use borrow.Author.Tests.{lt-ltb, le-ltb}
use Rattle.answers.specs.Ask.{Out, value, run, Trail, lookup}
use Rattle.answers.specs.Resolve.{Res, answer, refused, dry}
use Rattle.answers.specs.Theory.Sound.{Within}
use Rattle.answers.specs.Theory.Holds.{of-answer}
use Rattle.answers.specs.Theory.Fuel.{begun}
use Rattle.answers.specs.Theory.Ahead.{plain, prior}
use Rattle.answers.specs.Theory.AheadTurns.{Fate, awaits, fate_of, fate, fate-awaits, AllBelow, Begun, numbers, ended, first_of, remaining, remaining-turn, start-works}
use Rattle.answers.specs.Theory.AheadTurns as ahead
use Rattle.rules.specs.Refusals.{Refusal, placed, nowhere}
use Rattle.rules.specs.Values.{Answer}
use Rattle.rules.specs.Documents.{rule_of, first_byte}
use Rattle.rules.specs.Jobs.{order_of}
use Rattle.rules.specs.Sheet.{trail_fits}
use Rattle.theory.specs.Numbering.{Prepared}
use Rattle.theory.specs.Resolving.{rule-below, closed}
use Rattle.theory_order.specs.Walks.{Ended, forget}
use Rattle.theory_order.specs.Ready.{unanswered}
use Rattle.theory_order.specs.Turns.{Stacked}
use Rattle.theory_order.specs.Skeletons.{Needed, needs_of_question, question-leads, question-below}
use Rattle.theory_order.specs.Running.{running-start, running-begin, running-lay, begun-busy}
use Rattle.theory_order.specs.Clauses.{Task, questions_of, rules_of, KeptOf, work_c, RunningOf, turns_left_of, bar_of}
use Rattle.theory_order.specs.Resolving.{working_of, work-keeps}

-- ---- `begin`: a missing question by its mark and the count

module _ (t : Task) (S : Trail Answer) (stack : List ℕ) (n q : ℕ) (new : lookup S q ≡ none) where
  pub bar-circular : begun S stack q ≡ true → bar_of t stack n q ≡ some (placed 10 (first_byte t.setting q))
  unfolding order_of
  bar-circular e = rw (begun-busy S stack q new ∙ e)

  pub bar-excess : begun S stack q ≡ false → t.budget ≤ n → bar_of t stack n q ≡ some (placed 12 (first_byte t.setting q))
  unfolding order_of
  bar-excess e l = rw (begun-busy S stack q new ∙ e, le-ltb n t.budget l)

  pub bar-free : begun S stack q ≡ false → n < t.budget → bar_of t stack n q ≡ none
  bar-free e l = rw (begun-busy S stack q new ∙ e, lt-ltb n t.budget l)

-- ---- the questions that have begun, the newest first, each with what its further pieces need

abbrev pub BegunHere : Type 0
BegunHere = Begun Refusal Answer

module _ (t : Task) where
  abbrev pub needs_in : ℕ → List Needed
  needs_in = needs_of_question t.setting

  -- what a question comes to: what its pieces miss, then its rules
  abbrev pub fate_in : Trail Answer → BegunHere → Fate Refusal Answer
  fate_in S b = fate (lookup S) b.1 (rule_of t.setting b.0)

  -- a refusal at the trail S: of the questions being worked out the refusal of the oldest that refuses there, or else y
  abbrev pub first_in : List ℕ → Trail Answer → Refusal → Refusal
  first_in = first_of (rules_of t)

  abbrev pub remaining_of : List BegunHere → Trail Answer → ℕ → Ended Refusal Answer
  remaining_of bs S n = plain (remaining (rules_of t) needs_in t.budget (questions_of t) bs S n)

-- what their pieces need are questions
abbrev pub Placed : ℕ → List BegunHere → Type 0
Placed N [] = Unit {0}
Placed N (b ∷ bs) = AllBelow N b.1 × Placed N bs

stacked-here : (N : ℕ) (bs : List BegunHere) → Stacked N (numbers bs) → Placed N bs → ahead.Stacked N bs
stacked-here N [] s p = tt
stacked-here N (b ∷ bs) s p = (s.0, s.1, p.0, stacked-here N bs s.2 p.1)

forget-ended : {F R A : Type 0} (m : Res F R A) → ended m ≡ forget m
forget-ended (answer a S n) = refl
forget-ended (refused x) = refl
forget-ended dry = refl

-- ---- the loop of `work(b)` from the trail S and the count n, where it has come to a list, a trail and a count

pub record WorkAt (t : Task) (b : ℕ) (S : Trail Answer) (n : ℕ) (bs : List BegunHere) (Sᵢ : Trail Answer) (nᵢ : ℕ) : Type 0 where
  pub remains : remaining_of t bs Sᵢ nᵢ ≡ work_c t b S n
  pub running : RunningOf t (numbers bs) Sᵢ nᵢ
  pub placed : Placed (questions_of t) bs

module _ (t : Task) (p : Prepared t.setting.document) (b : ℕ) (S : Trail Answer) (n : ℕ) where
  -- ---- before the loop, and behind it

  module _ (l : b < questions_of t) (new : lookup S b ≡ none) where
    starts : plain (ahead.begin (rules_of t) (needs_in t) t.budget (questions_of t) (bar_of t [] n b) [] S n
        (remaining (rules_of t) (needs_in t) t.budget (questions_of t) ((b, needs_in t b) ∷ []) S)) ≡ forget ((working_of t p).handler b S n)
    unfolding order_of
    starts =
        start-works (rules_of t) (needs_in t) t.budget (questions_of t) (λ q _. question-leads t.setting q)
        (λ q _. question-below t.setting p q) (closed t.setting p t.trail_room t.text_room) b S n l new
        ∙ forget-ended ((working_of t p).handler b S n)

    pub work-barred : (y : Refusal) → bar_of t [] n b ≡ some y → work_c t b S n ≡ refused y
    work-barred y e = (working_of t p).works b S n l new ∙ sym (rw e at starts)

    module _ (kept : KeptOf t S n) where
      pub work-begins : bar_of t [] n b ≡ none → WorkAt t b S n ((b, needs_in t b) ∷ []) S (suc n)
      work-begins free = record {
        remains = rw free at starts ∙ sym ((working_of t p).works b S n l new);
        running = (running-begin (rules_of t) t.budget (questions_of t) [] S n
            (running-start (rules_of t) t.budget (questions_of t) S n kept) b new l free).0;
        placed = (question-below t.setting p b, tt);
      }

      pub work-done : (S' : Trail Answer) (n' : ℕ) → WorkAt t b S n [] S' n'
          → (work_c t b S n ≡ answer tt S' n') × KeptOf t S' n' × Within S S'
          × (unanswered (questions_of t) S' < unanswered (questions_of t) S)
      work-done S' n' a =
          let (kept', grows, fewer) = of-answer (rw (sym a.remains) at (work-keeps t p b S n l new kept)) in
          (sym a.remains, kept', grows, fewer)

  -- ---- one turn of the newest question, q, which goes on at the pieces that need ss

  module _ (q : ℕ) (ss : List Needed) (bs : List BegunHere) (Sᵢ : Trail Answer) (nᵢ : ℕ) (a : WorkAt t b S n ((q, ss) ∷ bs) Sᵢ nᵢ) where
    turned : remaining_of t ((q, ss) ∷ bs) Sᵢ nᵢ
        ≡ plain (ahead.turn (rules_of t) (needs_in t) t.budget (questions_of t) (remaining (rules_of t) (needs_in t) t.budget (questions_of t))
        (q, ss) bs Sᵢ nᵢ (fate_in t Sᵢ (q, ss)))
    unfolding order_of
    turned =
        ap plain (remaining-turn (rules_of t) (needs_in t) t.budget (questions_of t) (λ j _. question-below t.setting p j)
        (closed t.setting p t.trail_room t.text_room) (q, ss) bs
        (stacked-here (questions_of t) ((q, ss) ∷ bs) a.running.stacked a.placed) Sᵢ nᵢ)

    -- its pieces miss nothing, so that its rules are run
    module _ (looked : fate_in t Sᵢ (q, ss) ≡ fate_of (run (lookup Sᵢ) (rule_of t.setting q))) where
      -- they refuse: then an older question may refuse before
      pub turn-refuses : (y : Refusal) → run (lookup Sᵢ) (rule_of t.setting q) ≡ Out.refused y
          → work_c t b S n ≡ refused (first_in t (numbers bs) Sᵢ y)
      unfolding order_of
      turn-refuses y e =
          let first : work_c t b S n ≡ refused (first_in t (q ∷ numbers bs) Sᵢ y) = sym a.remains ∙ turned ∙ rw (looked, e) in
          first ∙ ap (λ (o : Out Refusal Answer). refused (first_in t (numbers bs) Sᵢ (prior o y))) e

      -- it is answered: the entry fits, or not
      module _ (r : Answer) (runs : run (lookup Sᵢ) (rule_of t.setting q) ≡ value r) where
        pub turn-lays : trail_fits t.trail_room t.text_room ((q, r) ∷ Sᵢ) ≡ true
            → WorkAt t b S n bs ((q, r) ∷ Sᵢ) nᵢ × (turns_left_of t (numbers bs) ((q, r) ∷ Sᵢ) < turns_left_of t (q ∷ numbers bs) Sᵢ)
        unfolding order_of
        turn-lays fits =
            let (running, less) = running-lay (rules_of t) t.budget (questions_of t) (numbers bs) Sᵢ nᵢ q r a.running runs fits in
            (record { remains = sym (turned ∙ rw (looked, runs, fits)) ∙ a.remains; running = running; placed = a.placed.1 }, less)

        pub turn-full : trail_fits t.trail_room t.text_room ((q, r) ∷ Sᵢ) ≡ false
            → work_c t b S n ≡ refused (first_in t (numbers bs) Sᵢ (nowhere 14))
        unfolding order_of
        turn-full full = sym a.remains ∙ turned ∙ rw (looked, runs, full)

    -- it misses question j, which begins or is barred; q goes on at the pieces that need ss'
    module _ (j : ℕ) (ss' : List Needed) (misses : fate_in t Sᵢ (q, ss) ≡ awaits j ss') where
      pub turn-missing : (lookup Sᵢ j ≡ none) × (j < questions_of t) × AllBelow (questions_of t) ss'
      turn-missing =
          rw misses at (fate-awaits (questions_of t) Sᵢ ss (rule_of t.setting q) a.placed.0 (rule-below t.setting p q))

      pub turn-begins : bar_of t (q ∷ numbers bs) nᵢ j ≡ none
          → WorkAt t b S n ((j, needs_in t j) ∷ (q, ss') ∷ bs) Sᵢ (suc nᵢ)
          × (turns_left_of t (j ∷ q ∷ numbers bs) Sᵢ < turns_left_of t (q ∷ numbers bs) Sᵢ)
      turn-begins free =
          let (new, l, w) = turn-missing in
          let (running, less) = running-begin (rules_of t) t.budget (questions_of t) (q ∷ numbers bs) Sᵢ nᵢ a.running j new l free in (
            record {
              remains = sym (turned ∙ rw (misses, free)) ∙ a.remains;
              running = running;
              placed = (question-below t.setting p j, (w, a.placed.1));
            },
            less,
          )

      -- then an older question may refuse before, or q itself
      pub turn-barred : (y : Refusal) → bar_of t (q ∷ numbers bs) nᵢ j ≡ some y → work_c t b S n ≡ refused (first_in t (q ∷ numbers bs) Sᵢ y)
      turn-barred y e = sym a.remains ∙ turned ∙ rw (misses, e)
