use Rattle.eval_concat.proofs.text.Texts.{gap_is}
use Rattle.eval_concat.proofs.text.join_gap.Goals as goal

pub returns : goal.returns
returns c = search (gap_is)
