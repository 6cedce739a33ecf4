use Rattle.job_inputs.proofs.buffers.Ends.{uses}
use Rattle.job_inputs.proofs.buffers.used_of.Goals as goal

pub returns-in-Ok : goal.returns-in-Ok
returns-in-Ok c = search uses
