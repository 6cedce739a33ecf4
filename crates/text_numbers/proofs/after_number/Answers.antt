use Rattle.text_numbers.proofs.Digits.{numbers}
use Rattle.text_numbers.proofs.after_number.Goals as goal

pub returns-then-ch-eq-MINUS : goal.returns-then-ch-eq-MINUS
returns-then-ch-eq-MINUS c = search numbers

pub returns : goal.returns
returns c = search numbers
