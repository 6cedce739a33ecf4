use Rattle.eval_environment.proofs.Asking.{name-is}
use Rattle.eval_environment.proofs.name_in.Goals as goal

pub returns : goal.returns
returns c = search (name-is)
