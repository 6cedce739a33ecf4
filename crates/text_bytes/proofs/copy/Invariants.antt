use Rattle.text_bytes.proofs.Copies.{CopyLoop}
use Rattle.text_bytes.proofs.copy.Given as goal

abbrev pub invariant-loop-i : goal.invariant-loop-i
invariant-loop-i l = CopyLoop l.s l.start l.n l.initial.out l.out l.i
