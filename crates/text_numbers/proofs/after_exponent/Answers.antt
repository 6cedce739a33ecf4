use Rattle.text_numbers.proofs.Digits.{exponent-ends}
use Rattle.text_numbers.proofs.after_exponent.Goals as goal

pub returns-then-is_digit : goal.returns-then-is_digit
returns-then-is_digit c = search exponent-ends

pub returns-then-is_exponent : goal.returns-then-is_exponent
returns-then-is_exponent c = search exponent-ends

pub returns : goal.returns
returns c = search exponent-ends
