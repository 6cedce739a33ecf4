use Rattle.eval_layers.proofs.Walks.{lays}
use Rattle.eval_layers.proofs.push_layer.Goals as goal

pub push-top-requires : goal.push-top-requires
push-top-requires c = search lays

pub returns-in-Layer : goal.returns-in-Layer
returns-in-Layer c = search lays

pub returns-in-Undefined : goal.returns-in-Undefined
returns-in-Undefined c = search lays

pub returns-in-Missing : goal.returns-in-Missing
returns-in-Missing c = search lays
