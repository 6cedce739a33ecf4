use Rattle.text_numbers.proofs.Digits.{digits}
use Rattle.text_numbers.proofs.is_digit.Goals as goal

pub returns-then-ch-lt-ZERO : goal.returns-then-ch-lt-ZERO
returns-then-ch-lt-ZERO c = search digits

pub returns : goal.returns
returns c = search digits
