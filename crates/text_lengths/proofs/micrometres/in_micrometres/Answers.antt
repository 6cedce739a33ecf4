use Rattle.text_lengths.proofs.micrometres.Digits.{ins, in-fits}
use Rattle.text_lengths.proofs.micrometres.in_micrometres.Goals as goal

pub returns-in_default : goal.returns-in_default
returns-in_default c = search ins

pub overflow_add-sum : goal.overflow_add-sum
overflow_add-sum c = search in-fits

pub returns-then-sum-gt-MOST_MICROMETRES : goal.returns-then-sum-gt-MOST_MICROMETRES
returns-then-sum-gt-MOST_MICROMETRES c = search ins

pub returns : goal.returns
returns c = search ins
