use Rattle.eval_concat.proofs.text.Texts.{added_is}
use Rattle.eval_concat.proofs.text.add_text.Goals as goal

pub returns : goal.returns
returns c = search (added_is)
