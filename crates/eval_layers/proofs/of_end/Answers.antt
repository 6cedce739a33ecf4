use Rattle.eval_layers.proofs.Tops.{ends}
use Rattle.eval_layers.proofs.of_end.Goals as goal

pub returns-then-base-top : goal.returns-then-base-top
returns-then-base-top c = search ends

pub returns-in-Some : goal.returns-in-Some
returns-in-Some c = search ends

pub returns-else-base-top : goal.returns-else-base-top
returns-else-base-top c = search ends
