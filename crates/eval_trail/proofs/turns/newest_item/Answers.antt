use Rattle.eval_trail.proofs.turns.Turns.{item-is}
use Rattle.eval_trail.proofs.turns.newest_item.Goals as goal

pub returns : goal.returns
returns c = search (item-is)
