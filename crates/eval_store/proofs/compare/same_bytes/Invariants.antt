use Rattle.eval_store.proofs.compare.Compared.{Comparing}
use Rattle.eval_store.proofs.compare.same_bytes.Given as goal

abbrev pub invariant-loop-i : goal.invariant-loop-i
invariant-loop-i l = Comparing l.s l.to l.from l.at l.n l.i
