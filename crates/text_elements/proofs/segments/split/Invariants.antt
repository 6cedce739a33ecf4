use Rattle.text_elements.proofs.segments.Splitting.{Splits}
use Rattle.text_elements.proofs.segments.split.Given as goal

abbrev pub invariant-loop-i : goal.invariant-loop-i
invariant-loop-i l = Splits l.s l.fn.from.0 l.fn.to.0 l.i l.initial.q l.initial.out l.initial.marks l.out l.marks l.q
