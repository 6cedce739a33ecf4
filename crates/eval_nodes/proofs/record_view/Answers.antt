use Rattle.eval_nodes.proofs.Looks.{record-views}
use Rattle.eval_nodes.proofs.record_view.Goals as goal

pub returns-then-kind_at-eq-OBJECT : goal.returns-then-kind_at-eq-OBJECT
returns-then-kind_at-eq-OBJECT c = search record-views

pub returns : goal.returns
returns c = search record-views
