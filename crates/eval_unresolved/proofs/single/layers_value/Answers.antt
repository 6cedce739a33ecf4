use Rattle.eval_unresolved.proofs.single.Returns.{layer-laws}
use Rattle.eval_unresolved.proofs.single.layers_value.Goals as goal

pub taken_value-requires : goal.taken_value-requires
taken_value-requires c = search layer-laws

pub returns : goal.returns
returns c = search layer-laws
