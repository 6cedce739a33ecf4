use Rattle.eval_results.proofs.sizes.Sizing.{outcome-laws}
use Rattle.eval_results.proofs.sizes.outcome_of.Goals as goal

pub returns-then-is_within : goal.returns-then-is_within
returns-then-is_within c = search outcome-laws

pub returns-else-is_within : goal.returns-else-is_within
returns-else-is_within c = search outcome-laws

pub returns-in-Undefined : goal.returns-in-Undefined
returns-in-Undefined c = search outcome-laws

pub returns-in-TooLarge : goal.returns-in-TooLarge
returns-in-TooLarge c = search outcome-laws
