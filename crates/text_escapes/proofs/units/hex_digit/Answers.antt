use Rattle.text_escapes.proofs.Digits.{hexes}
use Rattle.text_escapes.proofs.units.hex_digit.Goals as goal

pub returns-then-ch-lt-ZERO : goal.returns-then-ch-lt-ZERO
returns-then-ch-lt-ZERO c = search hexes

pub returns-then-ch-le-NINE : goal.returns-then-ch-le-NINE
returns-then-ch-le-NINE c = search hexes

pub returns-then-ch-lt-CAPITAL_A : goal.returns-then-ch-lt-CAPITAL_A
returns-then-ch-lt-CAPITAL_A c = search hexes

pub returns-then-ch-le-CAPITAL_F : goal.returns-then-ch-le-CAPITAL_F
returns-then-ch-le-CAPITAL_F c = search hexes

pub returns-then-ch-lt-A : goal.returns-then-ch-lt-A
returns-then-ch-lt-A c = search hexes

pub returns-then-ch-le-F : goal.returns-then-ch-le-F
returns-then-ch-le-F c = search hexes

pub returns : goal.returns
returns c = search hexes
