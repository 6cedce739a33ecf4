use Rattle.text_numbers.proofs.Digits.{fractions}
use Rattle.text_numbers.proofs.after_fraction.Goals as goal

pub returns-then-is_digit : goal.returns-then-is_digit
returns-then-is_digit c = search fractions

pub returns-then-ch-eq-DOT : goal.returns-then-ch-eq-DOT
returns-then-ch-eq-DOT c = search fractions

pub returns : goal.returns
returns c = search fractions
