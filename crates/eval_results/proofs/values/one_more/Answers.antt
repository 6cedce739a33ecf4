use Rattle.eval_results.proofs.values.Outcomes.{one-more-laws}
use Rattle.eval_results.proofs.values.one_more.Goals as goal

pub returns-in-Needs : goal.returns-in-Needs
returns-in-Needs c = search one-more-laws

pub returns-in-Undefined : goal.returns-in-Undefined
returns-in-Undefined c = search one-more-laws

pub returns-in-Done : goal.returns-in-Done
returns-in-Done c = search one-more-laws
