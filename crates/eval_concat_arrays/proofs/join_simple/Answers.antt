use Rattle.eval_concat_arrays.proofs.Returns.{simples}
use Rattle.eval_concat_arrays.proofs.join_simple.Goals as goal

pub returns-then-layer-lt-CAPACITY : goal.returns-then-layer-lt-CAPACITY
returns-then-layer-lt-CAPACITY c = search simples

pub returns : goal.returns
returns c = search simples
