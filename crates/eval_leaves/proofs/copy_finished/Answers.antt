use Rattle.eval_leaves.proofs.Finished.{copy-laws}
use Rattle.eval_leaves.proofs.copy_finished.Goals as goal

pub returns : goal.returns
returns c = search copy-laws
