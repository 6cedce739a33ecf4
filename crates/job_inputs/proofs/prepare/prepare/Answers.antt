use Rattle.job_inputs.specs.Prepare.Preparing.{prepared-is}
use Rattle.job_inputs.proofs.prepare.prepare.Goals as goal

pub returns : goal.returns
returns c = search prepared-is
