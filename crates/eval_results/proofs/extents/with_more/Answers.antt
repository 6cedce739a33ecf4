use Rattle.eval_results.proofs.extents.Extents.{more-laws}
use Rattle.eval_results.proofs.extents.with_more.Goals as goal

pub returns-then-e-m : goal.returns-then-e-m
returns-then-e-m c = search more-laws

pub returns : goal.returns
returns c = search more-laws
