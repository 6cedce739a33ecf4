use Rattle.text_numbers.proofs.Digits.{unsigneds}
use Rattle.text_numbers.proofs.after_unsigned.Goals as goal

pub after_fraction-fraction-requires : goal.after_fraction-fraction-requires
after_fraction-fraction-requires c = search (unsigneds, c.in_ok-int.was)

pub returns-in_err-int : goal.returns-in_err-int
returns-in_err-int c = search (unsigneds, c.from_residual.ensures)

pub returns : goal.returns
returns c = search (unsigneds, c.in_ok-int.was)
