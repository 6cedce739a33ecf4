use Rattle.eval_trail.proofs.Beginning.{beginnings}
use Rattle.eval_trail.proofs.begin.Goals as goal

pub returns-then-mark-ne0 : goal.returns-then-mark-ne0
returns-then-mark-ne0 c = search beginnings

pub returns-then-budget-at : goal.returns-then-budget-at
returns-then-budget-at c = search beginnings

pub returns : goal.returns
returns c = search beginnings
