use Rattle.text_unquoted.proofs.Stops.{runs}
use Rattle.text_unquoted.proofs.plain_run.Goals as goal

pub loop-p-init : goal.loop-p-init
loop-p-init c = search runs

pub loop-p-preserved : goal.loop-p-preserved
loop-p-preserved c = search runs

pub returns-then-not-is_plain : goal.returns-then-not-is_plain
returns-then-not-is_plain c = search runs

pub returns : goal.returns
returns c = search runs
