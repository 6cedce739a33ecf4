use Rattle.eval_ahead.proofs.Looking.{LoopInv}
use Prim.Native.Nat.{◌-◌}
use Rattle.eval_ahead.proofs.ahead.Given as goal

abbrev pub invariant-loop-i : goal.invariant-loop-i
invariant-loop-i l = LoopInv l.table l.bytes l.env l.base l.item l.from l.initial.work l.i l.work l.room

abbrev pub decreases-loop-i : goal.decreases-loop-i
decreases-loop-i l = l.end - l.i
