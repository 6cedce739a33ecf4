use Rattle.eval_keys.proofs.Readings.{keys}
use Rattle.eval_keys.proofs.has_key.Goals as goal

pub returns-then-size-len : goal.returns-then-size-len
returns-then-size-len c = search keys

pub returns : goal.returns
returns c = search keys
