-- Laws of the tests.
use mathlib.Core.Path.{◌≡◌, sym, ◌∙◌}
use mathlib.Core.Bool.{Bool, true, false}
use Rattle.sheet_sizes.specs.Clauses.{WithinIs}
use Rattle.eval_results.specs.Sizes.Contracts.{within_c, sized_c}
use Rattle.eval_results.specs.declared.extents.Extent.{Extent}
use Rattle.eval_results.specs.Sizes.Outcomes.{outcome_c, OutcomeOfIs}
use Rattle.eval_results.specs.declared.sizes.Answered.{Answered}
use Rattle.eval_results.specs.declared.sizes.Outcome.{Outcome}

pub within-is : {b : Extent} {r : Bool}
    → WithinIs b.deep (record { rec = record { 0 = b.out.rec.0 }; text = record { 0 = b.out.text.0 } }) r → r ≡ within_c b
unfolding within_c
within-is h = h.is

module _ (b : Extent) {f : Bool} (h : f ≡ within_c b) where
  pub sized-value : f ≡ true → Answered.Value b ≡ sized_c b
  unfolding sized_c
  sized-value e = rw (sized_c, sym h ∙ e)

  pub sized-large : f ≡ false → Answered.TooLarge ≡ sized_c b
  unfolding sized_c
  sized-large e = rw (sized_c, sym h ∙ e)

pub ruleset sized-laws = (sized-value, sized-large)

-- ---- what an answer comes to

module _ {q : Answered} where
  pub outcome-done : {e : Extent} {f : Bool} → q ≡ Answered.Value e → f ≡ within_c e → f ≡ true → OutcomeOfIs q (Outcome.Done e)
  unfolding outcome_c
  outcome-done p h t = record { is = rw (p, outcome_c, sym h ∙ t) }

  pub outcome-over : {e : Extent} {f : Bool} {r : Outcome} → q ≡ Answered.Value e → f ≡ within_c e → f ≡ false
      → r ≡ Outcome.Refused 13 (record { 0 = 0 }) → OutcomeOfIs q r
  unfolding outcome_c
  outcome-over p h t z = record { is = rw (p, outcome_c, sym h ∙ t) z }

  pub outcome-undefined : q ≡ Answered.Undefined → OutcomeOfIs q Outcome.Undefined
  unfolding outcome_c
  outcome-undefined p = record { is = rw (p, outcome_c) }

  pub outcome-large : {r : Outcome} → q ≡ Answered.TooLarge → r ≡ Outcome.Refused 13 (record { 0 = 0 }) → OutcomeOfIs q r
  unfolding outcome_c
  outcome-large p z = record { is = rw (p, outcome_c) z }

pub ruleset outcome-laws = (outcome-done, outcome-over, outcome-undefined, outcome-large)
