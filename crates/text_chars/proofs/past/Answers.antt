use Rattle.text_chars.proofs.Characters.{pasts}
use Rattle.text_chars.proofs.past.Goals as goal

pub returns-then-end-s : goal.returns-then-end-s
returns-then-end-s c = search pasts

pub returns : goal.returns
returns c = search pasts
