use Rattle.eval_concat.proofs.Joining.{tested-laws}
use Rattle.eval_concat.proofs.tested.Goals as goal

pub returns-then-is_within : goal.returns-then-is_within
returns-then-is_within c = search tested-laws

pub returns : goal.returns
returns c = search tested-laws
