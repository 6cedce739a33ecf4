use Rattle.eval_copy.proofs.records.Copies.{plain_copied}
use Rattle.eval_copy.proofs.records.copy_plain.Goals as goal

pub returns : goal.returns
returns c = search plain_copied
