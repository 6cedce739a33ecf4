use Rattle.eval_layers.proofs.Depths.{deeps}
use Rattle.eval_layers.proofs.deeper.Goals as goal

pub loop-i-init : goal.loop-i-init
loop-i-init c = search deeps

pub loop-i-preserved : goal.loop-i-preserved
loop-i-preserved c = search deeps

pub returns : goal.returns
returns c = search deeps
