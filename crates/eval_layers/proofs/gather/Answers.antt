use Rattle.eval_layers.proofs.Tops.{gathers}
use Rattle.eval_layers.proofs.gather.Goals as goal

pub loop-i-init : goal.loop-i-init
loop-i-init c = search gathers

pub returns-in-None : goal.returns-in-None
returns-in-None c = search gathers

pub loop-i-preserved : goal.loop-i-preserved
loop-i-preserved c = search gathers

pub returns : goal.returns
returns c = search gathers
