use Rattle.table_moves.proofs.Moves.{UpLoop}
use Rattle.table_moves.proofs.move_up.Given as goal

abbrev pub invariant-loop-j : goal.invariant-loop-j
invariant-loop-j l = UpLoop l.from l.to l.n l.initial.s l.s l.j
