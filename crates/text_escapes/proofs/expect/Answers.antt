use Rattle.text_escapes.proofs.Characters.{expects}
use Rattle.text_escapes.proofs.expect.Goals as goal

pub returns-in_default : goal.returns-in_default
returns-in_default c = search expects

pub returns-then-here-ch : goal.returns-then-here-ch
returns-then-here-ch c = search expects

pub returns : goal.returns
returns c = search expects
