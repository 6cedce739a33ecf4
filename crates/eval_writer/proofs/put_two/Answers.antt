use Rattle.eval_writer.proofs.Records.{two_is}
use Rattle.eval_writer.proofs.put_two.Goals as goal

pub returns : goal.returns
returns c = search two_is
