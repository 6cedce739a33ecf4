use Rattle.sheet_runs.proofs.Runs.{runs}
use Rattle.sheet_runs.proofs.run_end.Goals as goal

pub returns : goal.returns
returns c = search runs
