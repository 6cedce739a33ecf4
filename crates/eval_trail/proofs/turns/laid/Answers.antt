use Rattle.std.proofs.lemmas.Result.{err_from_is_err_and}
use Rattle.eval_trail.proofs.turns.Turns.{laids}
use Rattle.eval_trail.proofs.turns.laid.Goals as goal

pub returns-in_err-at : goal.returns-in_err-at
returns-in_err-at c = let p = err_from_is_err_and c.from_residual.result c.from_residual.ensures.1 in rw (p.1, p.2) (search (laids, c.in_err-at.was))

pub returns : goal.returns
returns c = search (laids, c.in_ok-at.was)
