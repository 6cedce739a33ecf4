use Rattle.eval_concat.proofs.scalar.Scalars.{item-word}
use Rattle.eval_concat.proofs.scalar.join_item.Goals as goal

pub returns : goal.returns
returns c = search (item-word)
