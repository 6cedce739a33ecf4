use Rattle.eval_writer.proofs.Words.{word-wrote}
use Rattle.eval_writer.proofs.put_word.Goals as goal

pub returns : goal.returns
returns c = search word-wrote
