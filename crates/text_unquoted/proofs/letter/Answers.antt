use Rattle.text_unquoted.proofs.Spelling.{letter-ends}
use Rattle.text_unquoted.proofs.letter.Goals as goal

pub returns-then-ch-a : goal.returns-then-ch-a
returns-then-ch-a c = search letter-ends

pub returns : goal.returns
returns c = search letter-ends
