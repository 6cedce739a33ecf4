use Rattle.text_scan.specs.Walks.{inline-loop}
use Rattle.text_scan.proofs.after_inline.Goals as goal

pub loop-p-init : goal.loop-p-init
loop-p-init c = search inline-loop

pub loop-p-smaller : goal.loop-p-smaller
loop-p-smaller c = search inline-loop

pub loop-p-preserved : goal.loop-p-preserved
loop-p-preserved c = search inline-loop

pub returns-else-is_inline : goal.returns-else-is_inline
returns-else-is_inline c = search inline-loop
