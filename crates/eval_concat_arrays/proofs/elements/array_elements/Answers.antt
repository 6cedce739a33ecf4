use Rattle.eval_concat_arrays.proofs.elements.Returns.{array_laws}
use Rattle.eval_concat_arrays.proofs.elements.array_elements.Goals as goal

pub returns-then-layer-ge-CAPACITY : goal.returns-then-layer-ge-CAPACITY
returns-then-layer-ge-CAPACITY c = search array_laws

pub returns : goal.returns
returns c = search array_laws
