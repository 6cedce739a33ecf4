use Rattle.text_lengths.proofs.decimals.Forms.{unit-ends-with}
use Rattle.text_lengths.proofs.decimals.unit_at.Goals as goal

pub returns-then-s-at : goal.returns-then-s-at
returns-then-s-at c = search unit-ends-with

pub returns : goal.returns
returns c = search unit-ends-with
