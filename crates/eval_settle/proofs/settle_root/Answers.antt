use Rattle.eval_settle.proofs.Roots.{roots}
use borrow.Author.Rules.{rules}
use Rattle.eval_settle.proofs.settle_root.Goals as goal

pub need_of_layer-need-requires : goal.need_of_layer-need-requires
need_of_layer-need-requires c = search roots

pub settle_one-requires : goal.settle_one-requires
settle_one-requires c = (search roots, search rules)

pub returns : goal.returns
returns c = search roots
