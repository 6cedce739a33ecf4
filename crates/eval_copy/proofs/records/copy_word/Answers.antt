use Rattle.eval_copy.proofs.records.Copies.{word_copied}
use Rattle.eval_copy.proofs.records.copy_word.Goals as goal

pub returns : goal.returns
returns c = search word_copied
