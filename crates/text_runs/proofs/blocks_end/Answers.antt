use Rattle.text_runs.proofs.Runs.{running}
use Rattle.text_runs.proofs.blocks_end.Goals as goal

pub loop-p-init : goal.loop-p-init
loop-p-init c = search running

pub overflow_add-p : goal.overflow_add-p
overflow_add-p c = search running

pub loop-p-smaller : goal.loop-p-smaller
loop-p-smaller c = search running

pub loop-p-preserved : goal.loop-p-preserved
loop-p-preserved c = search running

pub returns : goal.returns
returns c = search running
