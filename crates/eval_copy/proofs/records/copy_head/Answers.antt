use Rattle.eval_copy.proofs.records.Copies.{head-copied}
use Rattle.eval_copy.proofs.records.copy_head.Goals as goal

pub returns : goal.returns
returns c = search head-copied
