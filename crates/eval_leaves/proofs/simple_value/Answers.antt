use Rattle.eval_leaves.proofs.Leaves.{simple-is}
use Rattle.eval_leaves.proofs.simple_value.Goals as goal

pub returns : goal.returns
returns c = search simple-is
