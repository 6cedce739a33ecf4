use Rattle.eval_store.proofs.values.Values.{kept-value}
use Rattle.eval_store.proofs.values.keep_value.Goals as goal

pub returns : goal.returns
returns c = search kept-value
