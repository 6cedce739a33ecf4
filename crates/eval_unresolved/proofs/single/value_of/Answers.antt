use Rattle.eval_unresolved.proofs.single.Returns.{piece-laws}
use Rattle.eval_unresolved.proofs.single.value_of.Goals as goal

pub text_value-requires : goal.text_value-requires
text_value-requires c = search piece-laws

pub layers_value-requires : goal.layers_value-requires
layers_value-requires c = search piece-laws

pub layers_value-requires-in-Merged : goal.layers_value-requires-in-Merged
layers_value-requires-in-Merged c = search piece-laws

pub returns-in-Text : goal.returns-in-Text
returns-in-Text c = search piece-laws

pub returns-in-Undefined : goal.returns-in-Undefined
returns-in-Undefined c = search piece-laws

pub returns-in-One : goal.returns-in-One
returns-in-One c = search piece-laws

pub returns-in-Merged : goal.returns-in-Merged
returns-in-Merged c = search piece-laws

pub returns-in-Needs : goal.returns-in-Needs
returns-in-Needs c = search piece-laws

pub returns-in-Missing : goal.returns-in-Missing
returns-in-Missing c = search piece-laws
