use Rattle.sheet_runs.proofs.Runs.{runs}
use Rattle.sheet_runs.proofs.singles_end.Goals as goal

pub loop-init : goal.loop-init
loop-init c = search runs

pub loop-preserved : goal.loop-preserved
loop-preserved c = search runs
