use Rattle.eval_outcomes.proofs.newest.Newest.{newests}
use Rattle.eval_outcomes.proofs.newest.newest_outcome.Goals as goal

pub overflow_cast-list : goal.overflow_cast-list
overflow_cast-list c = search newests

pub returns-in-Some : goal.returns-in-Some
returns-in-Some c = search newests

pub returns-in-None : goal.returns-in-None
returns-in-None c = search newests
