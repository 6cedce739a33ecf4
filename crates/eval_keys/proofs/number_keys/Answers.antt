use Rattle.eval_keys.proofs.Numberings.{numberings}
use Rattle.eval_keys.proofs.number_keys.Goals as goal

pub loop-i-init : goal.loop-i-init
loop-i-init c = search numberings

pub loop-i-preserved : goal.loop-i-preserved
loop-i-preserved c = search numberings

pub returns : goal.returns
returns c = search numberings
