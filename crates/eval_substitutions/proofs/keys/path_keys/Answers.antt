use Rattle.eval_substitutions.proofs.keys.Elements.{keys}
use Rattle.eval_substitutions.proofs.keys.path_keys.Goals as goal

pub loop-i-init : goal.loop-i-init
loop-i-init c = search keys

pub loop-i-preserved : goal.loop-i-preserved
loop-i-preserved c = search keys

pub returns : goal.returns
returns c = search keys
