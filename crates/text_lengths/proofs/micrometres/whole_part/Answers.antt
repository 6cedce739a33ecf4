use Rattle.text_lengths.proofs.micrometres.Digits.{sums, sum-needs}
use Rattle.text_lengths.proofs.micrometres.whole_part.Goals as goal

pub loop-at-init : goal.loop-at-init
loop-at-init c = search sums

pub overflow_mul-digit_of : goal.overflow_mul-digit_of
overflow_mul-digit_of c = search sum-needs

pub overflow_add-sum : goal.overflow_add-sum
overflow_add-sum c = search sum-needs

pub loop-at-preserved : goal.loop-at-preserved
loop-at-preserved c = search sums

pub returns : goal.returns
returns c = search sums
