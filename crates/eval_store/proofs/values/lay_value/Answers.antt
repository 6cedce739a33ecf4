use Rattle.eval_store.proofs.values.Values.{laid-value}
use Rattle.eval_store.proofs.values.lay_value.Goals as goal

pub returns : goal.returns
returns c = search laid-value
