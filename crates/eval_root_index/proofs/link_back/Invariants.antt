use Rattle.eval_root_index.proofs.Linking.{BackInv}
use Prim.Native.Nat.{◌-◌}
use Rattle.eval_root_index.proofs.link_back.Given as goal

abbrev pub invariant-loop-at : goal.invariant-loop-at
invariant-loop-at l = BackInv l.end l.initial.table l.table l.last l.at

abbrev pub decreases-loop-at : goal.decreases-loop-at
decreases-loop-at l = l.end - l.at
