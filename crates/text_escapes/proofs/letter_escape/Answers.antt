use Rattle.text_escapes.proofs.Characters.{letter-table, letter-is, letter-other}
use Rattle.text_escapes.proofs.letter_escape.Goals as goal

pub returns-then-ch-eq-QUOTE : goal.returns-then-ch-eq-QUOTE
returns-then-ch-eq-QUOTE c = search (letter-is, letter-table.0)

pub returns-then-ch-eq-BACKSLASH : goal.returns-then-ch-eq-BACKSLASH
returns-then-ch-eq-BACKSLASH c = search (letter-is, letter-table.1)

pub returns-then-ch-eq-SLASH : goal.returns-then-ch-eq-SLASH
returns-then-ch-eq-SLASH c = search (letter-is, letter-table.2)

pub returns-then-ch-eq-B : goal.returns-then-ch-eq-B
returns-then-ch-eq-B c = search (letter-is, letter-table.3)

pub returns-then-ch-eq-F : goal.returns-then-ch-eq-F
returns-then-ch-eq-F c = search (letter-is, letter-table.4)

pub returns-then-ch-eq-N : goal.returns-then-ch-eq-N
returns-then-ch-eq-N c = search (letter-is, letter-table.5)

pub returns-then-ch-eq-R : goal.returns-then-ch-eq-R
returns-then-ch-eq-R c = search (letter-is, letter-table.6)

pub returns-then-ch-eq-T : goal.returns-then-ch-eq-T
returns-then-ch-eq-T c = search (letter-is, letter-table.7)

pub returns : goal.returns
returns c = search letter-other
