use Rattle.eval_look_back.proofs.Around.{At}
use Prim.Native.Nat.{◌-◌}
use Rattle.eval_look_back.proofs.field_around.Given as goal

abbrev pub invariant-loop-at : goal.invariant-loop-at
invariant-loop-at l = At l.table l.literal l.item l.at

abbrev pub decreases-loop-at : goal.decreases-loop-at
decreases-loop-at l = l.item - l.at
