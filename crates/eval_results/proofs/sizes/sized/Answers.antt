use Rattle.eval_results.proofs.sizes.Sizing.{sized-laws}
use Rattle.eval_results.proofs.sizes.sized.Goals as goal

pub returns-then-is_within : goal.returns-then-is_within
returns-then-is_within c = search sized-laws

pub returns : goal.returns
returns c = search sized-laws
