use Rattle.eval_substitutions.proofs.Levels.{LevelsInv}
use Prim.Native.Nat.{◌-◌}
use Rattle.eval_substitutions.proofs.before.Given as goal

abbrev pub invariant-loop-literal : goal.invariant-loop-literal
invariant-loop-literal l = LevelsInv l.table l.records l.keys l.item l.field l.initial.part l.initial.work l.work l.literal l.i l.part

abbrev pub decreases-loop-literal : goal.decreases-loop-literal
decreases-loop-literal l = l.item - l.literal
