use Rattle.text_chars.proofs.Positions.{position-steps}
use Rattle.text_chars.proofs.Position.step.Goals as goal

pub returns-then-ch-eq-NEWLINE : goal.returns-then-ch-eq-NEWLINE
returns-then-ch-eq-NEWLINE c = search position-steps

pub returns : goal.returns
returns c = search position-steps

pub returns-in_default : goal.returns-in_default
returns-in_default c = search position-steps
