use Rattle.eval_nodes.proofs.Keys.{numbers}
use Rattle.eval_nodes.proofs.key_number.Goals as goal

pub returns-then-k-lt-CAPACITY : goal.returns-then-k-lt-CAPACITY
returns-then-k-lt-CAPACITY c = search numbers

pub returns-else-k-lt-CAPACITY : goal.returns-else-k-lt-CAPACITY
returns-else-k-lt-CAPACITY c = search numbers
