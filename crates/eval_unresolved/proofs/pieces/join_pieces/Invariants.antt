use Prim.Native.Nat.{◌-◌}
use Rattle.eval_unresolved.specs.Pieces.Several.{LoopInv}
use Rattle.eval_unresolved.proofs.pieces.join_pieces.Given as goal

abbrev pub invariant-loop-i : goal.invariant-loop-i
invariant-loop-i l = LoopInv l.table l.env l.base l.item l.initial.bytes l.initial.work l.i l.j l.bytes l.work l.room

abbrev pub decreases-loop-i : goal.decreases-loop-i
decreases-loop-i l = l.end - l.i
