use Rattle.eval_groups.proofs.Objects.{AddInv}
use Prim.Native.Nat.{◌-◌}
use Rattle.eval_nodes.specs.Model.{members_of}
use Rattle.eval_groups.proofs.add_members.Given as goal

abbrev pub invariant-loop-next : goal.invariant-loop-next
invariant-loop-next l = AddInv l.table l.records l.base (members_of l.table l.records l.from l.end) l.initial.work l.top l.work l.at l.end l.t

abbrev pub decreases-loop-next : goal.decreases-loop-next
decreases-loop-next l = l.end - l.at
