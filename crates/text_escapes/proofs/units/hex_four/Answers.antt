use Rattle.text_escapes.proofs.Digits.{digits}
use Rattle.text_escapes.proofs.units.hex_four.Goals as goal

pub returns-in_default : goal.returns-in_default
returns-in_default c = search digits

pub returns-in_default-hex_digit : goal.returns-in_default-hex_digit
returns-in_default-hex_digit c = search digits

pub overflow_add-unit : goal.overflow_add-unit
overflow_add-unit c = search digits

pub loop-turn-init : goal.loop-turn-init
loop-turn-init c = search digits

pub loop-turn-preserved : goal.loop-turn-preserved
loop-turn-preserved c = search digits

pub returns : goal.returns
returns c = search digits
