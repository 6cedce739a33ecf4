use Rattle.eval_keys.proofs.Numberings.{NumbersInv}
use Rattle.eval_keys.proofs.number_keys.Given as goal

abbrev pub invariant-loop-i : goal.invariant-loop-i
invariant-loop-i l = NumbersInv l.texts l.items l.initial.table l.table l.i
