use Rattle.text_lengths.proofs.decimals.Forms.{starts}
use Rattle.text_lengths.proofs.decimals.decimal_of.Goals as goal

pub returns-then-ch-eq-MINUS : goal.returns-then-ch-eq-MINUS
returns-then-ch-eq-MINUS c = search starts

pub returns : goal.returns
returns c = search starts
