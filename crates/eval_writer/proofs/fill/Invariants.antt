use Rattle.eval_writer.proofs.Records.{Filling}
use Rattle.eval_writer.proofs.fill.Given as goal

abbrev pub invariant-loop-i : goal.invariant-loop-i
invariant-loop-i l = Filling l.to l.from l.at l.n l.initial.out l.out l.i
