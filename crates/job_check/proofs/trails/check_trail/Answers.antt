use Rattle.job_check.proofs.trails.Trails.{trails}
use Rattle.job_check.proofs.trails.check_trail.Goals as goal

pub loop-at-init : goal.loop-at-init
loop-at-init c = search trails

pub check_entry-requires : goal.check_entry-requires
check_entry-requires c = search trails

pub returns-in_err-at : goal.returns-in_err-at
returns-in_err-at c = rw c.from_residual.ensures (search (trails, c.in_err-at.was))

pub loop-at-smaller : goal.loop-at-smaller
loop-at-smaller c = search (trails, c.in_ok-at.was)

pub loop-at-preserved : goal.loop-at-preserved
loop-at-preserved c = search (trails, c.in_ok-at.was)

pub returns : goal.returns
returns c = search trails
