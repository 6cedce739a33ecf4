use Rattle.eval_keys.proofs.Readings.{SameInv}
use Rattle.eval_keys.proofs.same_bytes.Given as goal

abbrev pub invariant-loop-i : goal.invariant-loop-i
invariant-loop-i l = SameInv l.texts l.fn.from.0 l.fn.at.0 l.fn.len.0 l.i
