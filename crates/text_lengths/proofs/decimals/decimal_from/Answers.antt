use Rattle.text_lengths.proofs.decimals.Forms.{numbers}
use Rattle.text_lengths.proofs.decimals.decimal_from.Goals as goal

pub after_fraction-end-requires : goal.after_fraction-end-requires
after_fraction-end-requires c = search (numbers, c.in_ok-point.was)

pub returns-in_err-point : goal.returns-in_err-point
returns-in_err-point c = search (numbers, c.from_residual.ensures, c.in_err-point.was)

pub returns : goal.returns
returns c = search (numbers, c.in_ok-point.was)
