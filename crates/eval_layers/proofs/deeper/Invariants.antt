use Rattle.eval_layers.proofs.Depths.{DeepInv}
use Rattle.eval_layers.proofs.deeper.Given as goal

abbrev pub invariant-loop-i : goal.invariant-loop-i
invariant-loop-i l = DeepInv l.table l.records l.fn.part.lo l.fn.part.hi l.initial.walk.stuck l.base l.key l.initial.work l.work l.i l.walk
