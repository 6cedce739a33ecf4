use Rattle.text_scan.proofs.Lines.{runs}
use Rattle.text_scan.proofs.line_blocks.Goals as goal

pub loop-p-init : goal.loop-p-init
loop-p-init c = search runs

pub overflow_add-p : goal.overflow_add-p
overflow_add-p c = search runs

pub loop-p-smaller : goal.loop-p-smaller
loop-p-smaller c = search runs

pub loop-p-preserved : goal.loop-p-preserved
loop-p-preserved c = search runs

pub returns : goal.returns
returns c = search runs
