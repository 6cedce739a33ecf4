use Rattle.text_scan.specs.Walks.{digits-loop}
use Rattle.text_numbers.proofs.after_digits.Goals as goal

pub loop-p-init : goal.loop-p-init
loop-p-init c = search digits-loop

pub loop-p-smaller : goal.loop-p-smaller
loop-p-smaller c = search digits-loop

pub loop-p-preserved : goal.loop-p-preserved
loop-p-preserved c = search digits-loop

pub returns-else-is_digit : goal.returns-else-is_digit
returns-else-is_digit c = search digits-loop
