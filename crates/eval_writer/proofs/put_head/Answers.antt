use Rattle.eval_writer.proofs.Records.{head-is}
use Rattle.eval_writer.proofs.put_head.Goals as goal

pub returns : goal.returns
returns c = search head-is
