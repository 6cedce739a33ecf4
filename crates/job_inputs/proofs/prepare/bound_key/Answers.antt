use Rattle.job_inputs.proofs.prepare.Bounds.{bounds}
use Rattle.job_inputs.proofs.prepare.bound_key.Goals as goal

pub returns-then-at-len-gt-TEXTS : goal.returns-then-at-len-gt-TEXTS
returns-then-at-len-gt-TEXTS c = search bounds
