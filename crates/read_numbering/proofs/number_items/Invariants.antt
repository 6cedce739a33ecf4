use Rattle.read_numbering.proofs.Passes.{Passing}
use Rattle.read_numbering.proofs.number_items.Given as goal

abbrev pub invariant-loop-i : goal.invariant-loop-i
invariant-loop-i l = Passing l.initial.table l.items l.i l.count l.table
