use Rattle.eval_groups.proofs.Entering.{joins}
use Rattle.eval_groups.proofs.join_group.Goals as goal

pub returns : goal.returns
returns c = search joins
