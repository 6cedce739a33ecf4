use Rattle.eval_nodes.proofs.Looks.{item-views}
use Rattle.eval_nodes.proofs.item_view.Goals as goal

pub returns-then-kind-eq-OBJECT : goal.returns-then-kind-eq-OBJECT
returns-then-kind-eq-OBJECT c = search item-views

pub returns : goal.returns
returns c = search item-views
