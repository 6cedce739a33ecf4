use Rattle.eval_concat.proofs.Joining.{mixed-is}
use Rattle.eval_concat.proofs.mixed.Goals as goal

pub returns : goal.returns
returns c = search (mixed-is)
