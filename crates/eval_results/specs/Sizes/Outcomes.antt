-- What an unresolved value comes to.
use Rattle.std.specs.Prelude.{◌≡◌, refl, ◌≤◌, Bool, true, false, cond}
use Rattle.rules.specs.Sizes.{max_records, max_text}
use Rattle.eval_results.specs.Sizes.Contracts.{within_c}
use Rattle.eval_results.specs.Sizes.Answers.{within-records, within-texts}
use Rattle.eval_results.specs.declared.sizes.Answered.{Answered}
use Rattle.eval_results.specs.declared.sizes.Outcome.{Outcome}

-- whatever the tables hold, a value that is done lies in the room
abbrev pub OutcomeWithin : Outcome → Type 0
OutcomeWithin (Outcome.Done e) = (e.out.rec.0 ≤ max_records) × (e.out.text.0 ≤ max_text)
OutcomeWithin Outcome.Undefined = Unit {0}
OutcomeWithin (Outcome.Needs d) = Unit {0}
OutcomeWithin (Outcome.Refused number place) = Unit {0}

abbrev pub too_large : Outcome
too_large = Outcome.Refused 13 (record { 0 = 0 })

-- whatever the tables hold, a value is tested
unfoldable pub outcome_c : Answered → Outcome
unfolding within_c
outcome_c (Answered.Value e) = cond (within_c e) (Outcome.Done e) too_large
outcome_c Answered.Undefined = Outcome.Undefined
outcome_c Answered.TooLarge = too_large

pub record OutcomeOfIs (q : Answered) (r : Outcome) : Type 0 where
  pub is : r ≡ outcome_c q

pub outcome-within : {r : Outcome} (q : Answered) → OutcomeOfIs q r → OutcomeWithin r
unfolding outcome_c
outcome-within {r} q h = rw h.is (all q)
  where
    all : (q : Answered) → OutcomeWithin (outcome_c q)
    all (Answered.Value e) = go (within_c e) refl
      where
        go : (t : Bool) → within_c e ≡ t → OutcomeWithin (cond t (Outcome.Done e) too_large)
        go true w = (within-records e w, within-texts e w)
        go false w = tt
    all Answered.Undefined = tt
    all Answered.TooLarge = tt
