use Rattle.eval_results.proofs.sizes.Sizing.{within-is}
use Rattle.eval_results.proofs.sizes.is_within.Goals as goal

pub returns : goal.returns
returns c = search (within-is)
