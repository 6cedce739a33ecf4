use Rattle.eval_substitutions.proofs.paths.Paths.{WalkInv}
use Rattle.eval_substitutions.proofs.paths.walk_path.Given as goal

abbrev pub invariant-loop-i : goal.invariant-loop-i
invariant-loop-i l = WalkInv l.table l.records l.keys l.initial.work l.initial.p l.count l.from l.work l.i l.p
