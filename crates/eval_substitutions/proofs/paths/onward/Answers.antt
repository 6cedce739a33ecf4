use Rattle.eval_substitutions.proofs.paths.Paths.{onward-is}
use Rattle.eval_substitutions.proofs.paths.onward.Goals as goal

pub returns : goal.returns
returns c = search onward-is
