use Rattle.job_inputs.proofs.buffers.Ends.{finished}
use Rattle.job_inputs.proofs.buffers.finish.Goals as goal

pub returns : goal.returns
returns c = search finished
