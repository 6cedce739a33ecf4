use Rattle.text_numbers.proofs.Digits.{signs}
use Rattle.text_numbers.proofs.is_sign.Goals as goal

pub returns-then-ch-eq-PLUS : goal.returns-then-ch-eq-PLUS
returns-then-ch-eq-PLUS c = search signs

pub returns : goal.returns
returns c = search signs
