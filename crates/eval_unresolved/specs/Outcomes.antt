-- What the rules' answer is as an outcome: a value in the room that may be kept, undefined, or over its size.
use Rattle.std.specs.Prelude.{◌≡◌, ℕ, true, List}
use Rattle.std.proofs.Math.Path.{refl}
use Rattle.std.proofs.Common.{sym, ap, subst, ◌∙◌, arith}
use Rattle.std.proofs.Math.Option.{some}
use Rattle.answers.specs.Ask.{value}
use Rattle.rules.specs.Bytes.{Text}
use Rattle.rules.specs.Refusals.{nowhere}
use Rattle.rules.specs.Values.{Value, Answer, within_size}
use Rattle.rules.specs.NamedValues.{Distinct}
use Rattle.rules.specs.Settled.{Given}
use Rattle.eval_results.specs.declared.extents.Extent.{Extent}
use Rattle.eval_results.specs.Sizes.Contracts.{within_c}
use Rattle.eval_results.specs.Sizes.Answers.{ValueIn, AnswerCase, AnsweredIs, within-nesting, value-within, value-stands}
use Rattle.eval_results.specs.Sizes.Outcomes.{outcome_c, OutcomeOfIs}
use Rattle.eval_results.specs.declared.sizes.Answered.{Answered}
use Rattle.eval_results.specs.declared.sizes.Outcome.{Outcome}
use Rattle.eval_concat.specs.Steps.Contracts.{Good}
use Rattle.eval_unresolved.specs.Clauses.{ValueDone, OutcomeCase}

module _ {key : ℕ → Text} (items : ℕ) {T room : List ℕ} where
  value-done : {g : Given Answer} {e : Extent} {v : Value} → g ≡ value (some v) → Distinct v → ValueIn key (Good T items) room e v → within_c e ≡ true
      → ValueDone key items T room g e
  value-done {g} {e} {v} q d h w = record {
    held = h.held;
    is = q ∙ ap (λ (y : Value). value (some y)) (sym h.is);
    finished = record {
      in-room = value-stands h w;
      keys = h.good;
      distinct = subst (λ (y : Value). Distinct y) (sym h.is) d;
      nesting = omega (arith, h.came.deep, within-nesting e w);
    };
    within = ap within_size h.is ∙ sym (value-within h) ∙ w;
  }

  pub outcome-is : {g : Given Answer} {r : Outcome} (q : Answered) → AnsweredIs key (Good T items) room g q → ((v : Value) → g ≡ value (some v) → Distinct v)
      → OutcomeOfIs q r → OutcomeCase key items T room g r
  unfolding outcome_c
  outcome-is {g} {r} q h d o = rw o.is (all q h.is)
    where
      all : (q : Answered) → AnswerCase key (Good T items) room g q → OutcomeCase key items T room g (outcome_c q)
      all (Answered.Value e) (v, z, y, w) = rw (outcome_c, w) (value-done z (d v z) y w)
      all Answered.Undefined z = z
      all Answered.TooLarge z = record { refusal = nowhere 13; is = z; its-number = refl; its-place = refl }
