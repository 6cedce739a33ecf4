use Rattle.std.proofs.lemmas.Result.{err_from_is_err_and}
use Rattle.eval_unresolved.proofs.pieces.Joining.{loop-laws}
use Rattle.eval_unresolved.proofs.pieces.join_pieces.Goals as goal

pub loop-i-init : goal.loop-i-init
loop-i-init c = search loop-laws

pub join_next-requires : goal.join_next-requires
join_next-requires c = search loop-laws

pub returns-in_err-step : goal.returns-in_err-step
returns-in_err-step c =
    let p = err_from_is_err_and c.from_residual.result c.from_residual.ensures.1 in
    rw (p.1, p.2) (search (loop-laws, c.in_err-step.was))

pub returns-in-Needs : goal.returns-in-Needs
returns-in-Needs c = search (loop-laws, c.in_ok-step.was)

pub next_piece-i-requires : goal.next_piece-i-requires
next_piece-i-requires c = search loop-laws

pub loop-i-smaller : goal.loop-i-smaller
loop-i-smaller c = search loop-laws

pub loop-i-preserved : goal.loop-i-preserved
loop-i-preserved c = search (loop-laws, c.in_ok-step.was)

pub returns : goal.returns
returns c = search loop-laws
