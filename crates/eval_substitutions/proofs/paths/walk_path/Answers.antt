use Rattle.eval_substitutions.proofs.paths.Paths.{walks}
use Rattle.eval_substitutions.proofs.paths.walk_path.Goals as goal

pub loop-i-init : goal.loop-i-init
loop-i-init c = search walks

pub loop-i-preserved : goal.loop-i-preserved
loop-i-preserved c = search walks

pub returns : goal.returns
returns c = search walks
