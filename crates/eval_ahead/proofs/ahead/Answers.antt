use Rattle.eval_ahead.proofs.Looking.{loop-laws}
use Rattle.eval_ahead.proofs.ahead.Goals as goal

pub loop-i-init : goal.loop-i-init
loop-i-init c = search loop-laws

pub missed-requires : goal.missed-requires
missed-requires c = search loop-laws

pub returns-in-Some : goal.returns-in-Some
returns-in-Some c = search loop-laws

pub next_piece-i-requires : goal.next_piece-i-requires
next_piece-i-requires c = search loop-laws

pub loop-i-smaller : goal.loop-i-smaller
loop-i-smaller c = search loop-laws

pub loop-i-preserved : goal.loop-i-preserved
loop-i-preserved c = search loop-laws

pub returns : goal.returns
returns c = search loop-laws
