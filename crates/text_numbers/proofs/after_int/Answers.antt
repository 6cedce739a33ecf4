use Rattle.text_numbers.proofs.Digits.{ints}
use Rattle.text_numbers.proofs.after_int.Goals as goal

pub returns-then-ch-eq-ZERO : goal.returns-then-ch-eq-ZERO
returns-then-ch-eq-ZERO c = search ints

pub returns-then-is_digit : goal.returns-then-is_digit
returns-then-is_digit c = search ints

pub returns : goal.returns
returns c = search ints
