use Rattle.text_lengths.proofs.micrometres.Digits.{Summing}
use Rattle.text_lengths.proofs.micrometres.whole_part.Given as goal

abbrev pub invariant-loop-at : goal.invariant-loop-at
invariant-loop-at l = Summing l.s l.fn.from.0 l.fn.to.0 l.unit l.at l.sum
