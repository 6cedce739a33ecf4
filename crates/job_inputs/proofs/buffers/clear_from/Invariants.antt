use Rattle.job_inputs.proofs.buffers.Ends.{Clearing}
use Rattle.job_inputs.proofs.buffers.clear_from.Given as goal

abbrev pub invariant-loop-i : goal.invariant-loop-i
invariant-loop-i l = Clearing l.used l.initial.part l.part l.i
