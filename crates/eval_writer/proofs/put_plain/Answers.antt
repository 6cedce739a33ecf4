use Rattle.eval_writer.proofs.Records.{plain-wrote}
use Rattle.eval_writer.proofs.put_plain.Goals as goal

pub returns : goal.returns
returns c = search plain-wrote
