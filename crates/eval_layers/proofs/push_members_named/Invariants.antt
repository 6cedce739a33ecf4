use Rattle.eval_layers.proofs.Picks.{PickInv}
use Prim.Native.Nat.{◌-◌}
use Rattle.eval_nodes.specs.Model.{members_of}
use Rattle.eval_stack.specs.Model.{entries}
use Rattle.eval_layers.specs.Model.{push_members_c}
use Rattle.eval_layers.specs.Clauses.{walked}
use Rattle.eval_layers.proofs.push_members_named.Given as goal

abbrev pub invariant-loop-t : goal.invariant-loop-t
invariant-loop-t l = PickInv l.table l.records l.key l.base l.initial.work (push_members_c l.table l.records l.key (entries - l.base) (members_of l.table l.records l.from l.end) (walked l.initial.work l.base l.initial.t)) l.work l.t l.at l.end

abbrev pub decreases-loop-t : goal.decreases-loop-t
decreases-loop-t l = l.end - l.at
