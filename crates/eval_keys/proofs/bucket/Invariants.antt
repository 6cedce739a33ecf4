use Rattle.eval_keys.proofs.Readings.{HashInv}
use Rattle.eval_keys.proofs.bucket.Given as goal

abbrev pub invariant-loop-i : goal.invariant-loop-i
invariant-loop-i l = HashInv l.texts l.fn.at.0 l.fn.len.0 l.hash l.i
