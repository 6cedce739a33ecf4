use Rattle.eval_nodes.proofs.Looks.{showns}
use Rattle.eval_nodes.proofs.layer_of.Goals as goal

pub returns-then-number_at-eq-UNRESOLVED : goal.returns-then-number_at-eq-UNRESOLVED
returns-then-number_at-eq-UNRESOLVED c = search showns

pub returns-else-number_at-eq-UNRESOLVED : goal.returns-else-number_at-eq-UNRESOLVED
returns-else-number_at-eq-UNRESOLVED c = search showns

pub returns-else-layer-lt-CAPACITY : goal.returns-else-layer-lt-CAPACITY
returns-else-layer-lt-CAPACITY c = search showns
