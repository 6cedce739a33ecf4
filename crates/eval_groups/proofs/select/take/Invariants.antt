use Rattle.eval_groups.proofs.select.Walks.{TakeInv}
use Rattle.eval_groups.proofs.select.take.Given as goal

abbrev pub invariant-loop-taken : goal.invariant-loop-taken
invariant-loop-taken l = TakeInv l.table l.records l.first l.top l.initial.work l.work l.q l.t

abbrev pub decreases-loop-taken : goal.decreases-loop-taken
decreases-loop-taken l = l.q
