use Rattle.text_runs.proofs.Runs.{joining}
use Rattle.text_runs.proofs.run_end.Goals as goal

pub loop-init : goal.loop-init
loop-init c = search joining

pub returns-in_default : goal.returns-in_default
returns-in_default c = search joining

pub loop-preserved : goal.loop-preserved
loop-preserved c = search joining

pub returns : goal.returns
returns c = search joining
