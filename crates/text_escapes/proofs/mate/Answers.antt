use Rattle.text_escapes.proofs.Points.{mates}
use Rattle.text_escapes.proofs.mate.Goals as goal

pub pair-requires : goal.pair-requires
pair-requires c = search mates

pub returns-then-is_low : goal.returns-then-is_low
returns-then-is_low c = search mates

pub returns-in_err-letter : goal.returns-in_err-letter
returns-in_err-letter c = search mates

pub returns-in_err-digits : goal.returns-in_err-digits
returns-in_err-digits c = search mates

pub returns-in_err-low : goal.returns-in_err-low
returns-in_err-low c = search mates

pub returns : goal.returns
returns c = search (mates, c.in_ok-letter.was, c.in_ok-digits.was, c.in_ok-low.was)
