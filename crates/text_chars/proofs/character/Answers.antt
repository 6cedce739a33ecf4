use Rattle.text_chars.proofs.Characters.{characters}
use Rattle.text_chars.proofs.character.Goals as goal

pub returns-then-lead-lt-NOT_ASCII : goal.returns-then-lead-lt-NOT_ASCII
returns-then-lead-lt-NOT_ASCII c = search characters

pub returns-then-lead-lt224 : goal.returns-then-lead-lt224
returns-then-lead-lt224 c = search characters

pub returns-then-lead-lt240 : goal.returns-then-lead-lt240
returns-then-lead-lt240 c = search characters

pub returns : goal.returns
returns c = search characters
