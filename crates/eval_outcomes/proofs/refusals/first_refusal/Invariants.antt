use Rattle.eval_outcomes.proofs.refusals.Scanning.{LoopInv}
use Rattle.eval_outcomes.proofs.refusals.first_refusal.Given as goal

abbrev pub invariant-loop-i : goal.invariant-loop-i
invariant-loop-i l = LoopInv l.table l.env l.list l.base l.n l.initial.stack l.initial.bytes l.i l.stack l.bytes l.room
