use Rattle.eval_layers.proofs.Depths.{insides}
use Rattle.eval_layers.proofs.inside.Goals as goal

pub returns-in-None : goal.returns-in-None
returns-in-None c = search insides

pub returns-in-Some : goal.returns-in-Some
returns-in-Some c = search insides
