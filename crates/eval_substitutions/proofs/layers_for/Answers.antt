use Rattle.eval_substitutions.proofs.Walking.{walks}
use Rattle.eval_substitutions.proofs.layers_for.Goals as goal

pub returns-then-own-gt0 : goal.returns-then-own-gt0
returns-then-own-gt0 c = search walks

pub returns : goal.returns
returns c = search walks
