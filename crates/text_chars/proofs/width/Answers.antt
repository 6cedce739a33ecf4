use Rattle.text_chars.proofs.Characters.{widths}
use Rattle.text_chars.proofs.width.Goals as goal

pub returns-then-lead-lt-NOT_ASCII : goal.returns-then-lead-lt-NOT_ASCII
returns-then-lead-lt-NOT_ASCII c = search widths

pub returns-then-lead-lt224 : goal.returns-then-lead-lt224
returns-then-lead-lt224 c = search widths

pub returns-then-lead-lt240 : goal.returns-then-lead-lt240
returns-then-lead-lt240 c = search widths

pub returns : goal.returns
returns c = search widths
