use Rattle.read_references.proofs.Endings.{Ending}
use Rattle.read_references.proofs.write_ends.Given as goal

abbrev pub invariant-loop-i : goal.invariant-loop-i
invariant-loop-i l = Ending l.marks l.count l.size l.initial.text l.text l.i
