use Rattle.eval_layers.proofs.Walks.{nameds}
use Rattle.eval_layers.proofs.push_named.Goals as goal

pub returns-then-key_of-key : goal.returns-then-key_of-key
returns-then-key_of-key c = search nameds

pub returns : goal.returns
returns c = search nameds
