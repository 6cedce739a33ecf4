use Rattle.job_inputs.proofs.buffers.Ends.{clears, clear_in}
use Rattle.job_inputs.proofs.buffers.clear_from.Goals as goal

pub loop-i-init : goal.loop-i-init
loop-i-init c = search clears

pub bounds-part-i : goal.bounds-part-i
bounds-part-i c = search clear_in

pub loop-i-preserved : goal.loop-i-preserved
loop-i-preserved c = search clears

pub returns : goal.returns
returns c = search clears
