use Rattle.eval_root_index.proofs.Linking.{ByKeyInv}
use Rattle.eval_root_index.proofs.link_by_key.Given as goal

abbrev pub invariant-loop-i : goal.invariant-loop-i
invariant-loop-i l = ByKeyInv l.last l.initial.table l.table l.i

abbrev pub decreases-loop-i : goal.decreases-loop-i
decreases-loop-i l = l.i
