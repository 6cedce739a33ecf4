use Rattle.sheet_layout.proofs.Runs.{Laying}
use Rattle.sheet_layout.proofs.lay_run.Given as goal

abbrev pub invariant-loop-i : goal.invariant-loop-i
invariant-loop-i l = Laying l.room l.fn.at.0 l.last l.initial.part l.part l.i
