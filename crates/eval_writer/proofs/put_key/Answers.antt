use Rattle.eval_writer.proofs.Words.{key-wrote}
use Rattle.eval_writer.proofs.put_key.Goals as goal

pub returns : goal.returns
returns c = search key-wrote
