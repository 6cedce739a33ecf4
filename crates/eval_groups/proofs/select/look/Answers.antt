use Rattle.eval_groups.proofs.select.Looks.{looks}
use Rattle.eval_groups.proofs.select.look.Goals as goal

pub returns-in-Layer : goal.returns-in-Layer
returns-in-Layer c = search looks

pub returns-in-Undefined : goal.returns-in-Undefined
returns-in-Undefined c = search looks

pub returns-in-Missing : goal.returns-in-Missing
returns-in-Missing c = search looks
