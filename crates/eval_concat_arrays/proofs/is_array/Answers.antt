use Rattle.eval_concat_arrays.proofs.Returns.{telling}
use Rattle.eval_concat_arrays.proofs.is_array.Goals as goal

pub returns-then-layer-lt-CAPACITY : goal.returns-then-layer-lt-CAPACITY
returns-then-layer-lt-CAPACITY c = search telling

pub returns : goal.returns
returns c = search telling
