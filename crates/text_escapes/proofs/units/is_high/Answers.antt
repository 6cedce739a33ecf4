use Rattle.text_escapes.proofs.Digits.{highs}
use Rattle.text_escapes.proofs.units.is_high.Goals as goal

pub returns-then-unit-lt-FIRST_HIGH : goal.returns-then-unit-lt-FIRST_HIGH
returns-then-unit-lt-FIRST_HIGH c = search highs

pub returns : goal.returns
returns c = search highs
