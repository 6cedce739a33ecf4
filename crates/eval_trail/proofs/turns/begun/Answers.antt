use Rattle.std.proofs.lemmas.Result.{err_from_is_err_and}
use Rattle.eval_trail.proofs.turns.Turns.{beguns}
use Rattle.eval_trail.proofs.turns.begun.Goals as goal

pub bounds-list-n : goal.bounds-list-n
bounds-list-n c = search (beguns, c.in_ok-next.was)

pub bounds-list-n-2 : goal.bounds-list-n-2
bounds-list-n-2 c = search (beguns, c.in_ok-next.was)

pub returns-in_err-next : goal.returns-in_err-next
returns-in_err-next c = let p = err_from_is_err_and c.from_residual.result c.from_residual.ensures.1 in rw (p.1, p.2) (search (beguns, c.in_err-next.was))

pub returns : goal.returns
returns c = search (beguns, c.in_ok-next.was)
