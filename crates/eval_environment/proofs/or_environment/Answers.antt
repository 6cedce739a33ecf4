use Rattle.eval_environment.proofs.Asking.{asked-laws}
use Rattle.eval_environment.proofs.or_environment.Goals as goal

pub returns-then-number_at : goal.returns-then-number_at
returns-then-number_at c = search asked-laws

pub returns-in-Some : goal.returns-in-Some
returns-in-Some c = search asked-laws

pub returns-else-number_at : goal.returns-else-number_at
returns-else-number_at c = search asked-laws
