use Rattle.eval_groups.proofs.Objects.{MembersInv}
use Rattle.eval_groups.proofs.members.Given as goal

abbrev pub invariant-loop-i : goal.invariant-loop-i
invariant-loop-i l = MembersInv l.table l.records l.lo l.hi l.initial.work l.work l.i l.t
