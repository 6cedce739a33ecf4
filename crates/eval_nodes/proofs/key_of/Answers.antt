use Rattle.eval_nodes.proofs.Keys.{keys}
use Rattle.eval_nodes.proofs.key_of.Goals as goal

pub returns-then-layer-lt-CAPACITY : goal.returns-then-layer-lt-CAPACITY
returns-then-layer-lt-CAPACITY c = search keys

pub returns : goal.returns
returns c = search keys
