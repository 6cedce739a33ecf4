use Rattle.eval_nodes.proofs.Looks.{item-kids}
use Rattle.eval_nodes.proofs.item_member.Goals as goal

pub returns-then-number_at-ge-PIECE : goal.returns-then-number_at-ge-PIECE
returns-then-number_at-ge-PIECE c = search item-kids

pub returns-then-size-eq0 : goal.returns-then-size-eq0
returns-then-size-eq0 c = search item-kids

pub returns : goal.returns
returns c = search item-kids
