use Rattle.text_lengths.proofs.decimals.Forms.{space-loop}
use Rattle.text_lengths.proofs.decimals.after_space.Goals as goal

pub loop-p-init : goal.loop-p-init
loop-p-init c = search space-loop

pub loop-p-smaller : goal.loop-p-smaller
loop-p-smaller c = search space-loop

pub loop-p-preserved : goal.loop-p-preserved
loop-p-preserved c = search space-loop

pub returns-else-is_space : goal.returns-else-is_space
returns-else-is_space c = search space-loop
