use Rattle.job_inputs.proofs.prepare.Bounds.{BoundInv}
use Rattle.job_inputs.proofs.prepare.bound_keys.Given as goal

abbrev pub invariant-loop-i : goal.invariant-loop-i
invariant-loop-i l = BoundInv l.items l.initial.table l.table l.i
