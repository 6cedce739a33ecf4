use Rattle.eval_groups.proofs.Entering.{begins}
use Rattle.eval_groups.proofs.begin_group.Goals as goal

pub returns : goal.returns
returns c = search begins
