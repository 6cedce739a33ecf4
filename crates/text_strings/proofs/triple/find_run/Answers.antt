use Rattle.text_strings.proofs.Runs.{runs}
use Rattle.text_strings.proofs.triple.find_run.Goals as goal

pub loop-next-init : goal.loop-next-init
loop-next-init c = search runs

pub returns-in-Some : goal.returns-in-Some
returns-in-Some c = search runs

pub returns-in_err-at : goal.returns-in_err-at
returns-in_err-at c = rw c.from_residual.ensures (search (runs, c.in_err-at.was))

pub loop-next-smaller : goal.loop-next-smaller
loop-next-smaller c = search (runs, c.in_ok-at.was)

pub loop-next-preserved : goal.loop-next-preserved
loop-next-preserved c = search (runs, c.in_ok-at.was)
