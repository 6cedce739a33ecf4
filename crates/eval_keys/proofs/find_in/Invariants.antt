use Rattle.eval_keys.proofs.Walks.{FindInv}
use Rattle.eval_keys.proofs.find_in.Given as goal

abbrev pub invariant-loop-r : goal.invariant-loop-r
invariant-loop-r l = FindInv l.texts l.table l.at.0 l.len.0 l.r

abbrev pub decreases-loop-r : goal.decreases-loop-r
decreases-loop-r l = l.r
