use Rattle.eval_results.proofs.values.Outcomes.{headed-laws}
use Rattle.eval_results.proofs.values.headed.Goals as goal

pub overflow_add-extent : goal.overflow_add-extent
overflow_add-extent c = search headed-laws

pub returns-in-Needs : goal.returns-in-Needs
returns-in-Needs c = search headed-laws

pub returns-in-Done : goal.returns-in-Done
returns-in-Done c = search headed-laws
