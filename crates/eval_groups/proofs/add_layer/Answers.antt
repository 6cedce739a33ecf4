use Rattle.eval_groups.proofs.Objects.{layer-addings}
use Rattle.eval_groups.proofs.add_layer.Goals as goal

pub returns-in-None : goal.returns-in-None
returns-in-None c = search layer-addings

pub returns-in-Some : goal.returns-in-Some
returns-in-Some c = search layer-addings
