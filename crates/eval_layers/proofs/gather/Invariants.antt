use Rattle.eval_layers.proofs.Tops.{GatherInv}
use Rattle.eval_layers.proofs.gather.Given as goal

abbrev pub invariant-loop-i : goal.invariant-loop-i
invariant-loop-i l = GatherInv l.table l.records l.part.lo l.hi l.part.stuck l.initial.work l.work l.i l.top
