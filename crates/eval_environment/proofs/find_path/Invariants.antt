use Rattle.eval_environment.proofs.Names.{Looking}
use Prim.Native.Nat.{◌+◌, ◌-◌}
use lib.ListN.{length}
use Rattle.rules.specs.Unresolved.{dotted}
use Rattle.eval_environment.specs.Model.{elements_c}
use Rattle.eval_environment.proofs.find_path.Given as goal

abbrev pub invariant-loop-at : goal.invariant-loop-at
invariant-loop-at l = Looking l.env (dotted (elements_c l.texts l.path.0 (l.path.0 + l.len.0) l.count 0)) l.at

abbrev pub decreases-loop-at : goal.decreases-loop-at
decreases-loop-at l = length l.env - l.at
