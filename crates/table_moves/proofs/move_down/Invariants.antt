use Rattle.table_moves.proofs.Moves.{DownLoop}
use Rattle.table_moves.proofs.move_down.Given as goal

abbrev pub invariant-loop-i : goal.invariant-loop-i
invariant-loop-i l = DownLoop l.from l.to l.n l.initial.s l.s l.i
