use Rattle.text_escapes.proofs.Digits.{lows}
use Rattle.text_escapes.proofs.units.is_low.Goals as goal

pub returns-then-unit-lt-FIRST_LOW : goal.returns-then-unit-lt-FIRST_LOW
returns-then-unit-lt-FIRST_LOW c = search lows

pub returns : goal.returns
returns c = search lows
