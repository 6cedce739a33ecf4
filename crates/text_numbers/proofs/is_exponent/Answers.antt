use Rattle.text_numbers.proofs.Digits.{exponents}
use Rattle.text_numbers.proofs.is_exponent.Goals as goal

pub returns-then-ch-eq-CAPITAL_E : goal.returns-then-ch-eq-CAPITAL_E
returns-then-ch-eq-CAPITAL_E c = search exponents

pub returns : goal.returns
returns c = search exponents
