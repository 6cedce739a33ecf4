use Rattle.eval_groups.proofs.select.Looks.{views}
use Rattle.eval_groups.proofs.select.look_layer.Goals as goal

pub returns-in-None : goal.returns-in-None
returns-in-None c = search views

pub returns-in-Some : goal.returns-in-Some
returns-in-Some c = search views
