use Rattle.text_lengths.proofs.micrometres.Digits.{Dividing}
use Rattle.text_lengths.proofs.micrometres.fraction_part.Given as goal

abbrev pub invariant-loop-at : goal.invariant-loop-at
invariant-loop-at l = Dividing l.s l.from.0 l.initial.at l.unit l.at l.rest

abbrev pub decreases-loop-at : goal.decreases-loop-at
decreases-loop-at l = l.at
