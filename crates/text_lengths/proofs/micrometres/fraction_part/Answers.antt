use Rattle.text_lengths.proofs.micrometres.Digits.{divides, divide-needs}
use Rattle.text_lengths.proofs.micrometres.fraction_part.Goals as goal

pub loop-at-init : goal.loop-at-init
loop-at-init c = search divides

pub overflow_mul-tenfold : goal.overflow_mul-tenfold
overflow_mul-tenfold c = search divide-needs

pub overflow_add-tenfold : goal.overflow_add-tenfold
overflow_add-tenfold c = search divide-needs

pub returns-then-tenfold-gt0 : goal.returns-then-tenfold-gt0
returns-then-tenfold-gt0 c = search divides

pub loop-at-preserved : goal.loop-at-preserved
loop-at-preserved c = search divides

pub returns : goal.returns
returns c = search divides
