use Rattle.eval_environment.proofs.Comparing.{Comparing}
use Rattle.eval_environment.proofs.is_path.Given as goal

abbrev pub invariant-loop-i : goal.invariant-loop-i
invariant-loop-i l = Comparing l.texts l.start l.ends l.count l.name l.i l.from l.used
