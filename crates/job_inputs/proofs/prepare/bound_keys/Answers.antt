use Rattle.job_inputs.proofs.prepare.Bounds.{bounds_of}
use Rattle.job_inputs.proofs.prepare.bound_keys.Goals as goal

pub loop-i-init : goal.loop-i-init
loop-i-init c = search bounds_of

pub loop-i-preserved : goal.loop-i-preserved
loop-i-preserved c = search bounds_of

pub returns : goal.returns
returns c = search bounds_of
