use Rattle.eval_layers.proofs.Tops.{others}
use Rattle.eval_layers.proofs.of_other.Goals as goal

pub returns-then-base-top : goal.returns-then-base-top
returns-then-base-top c = search others

pub returns : goal.returns
returns c = search others
