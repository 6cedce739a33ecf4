use Rattle.text_chars.proofs.Characters.{steps}
use Rattle.text_chars.proofs.Cursor.step.Goals as goal

pub returns-then-at-s : goal.returns-then-at-s
returns-then-at-s c = search steps

pub returns-else-at-s : goal.returns-else-at-s
returns-else-at-s c = search steps
