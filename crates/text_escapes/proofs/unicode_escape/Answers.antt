use Rattle.text_escapes.proofs.Points.{unicodes}
use Rattle.text_escapes.proofs.unicode_escape.Goals as goal

pub returns-then-is_low : goal.returns-then-is_low
returns-then-is_low c = search (unicodes, c.in_ok-half.was)

pub mate-requires : goal.mate-requires
mate-requires c = search unicodes

pub returns-then-is_high : goal.returns-then-is_high
returns-then-is_high c = search (unicodes, c.in_ok-half.was)

pub returns-in_err-half : goal.returns-in_err-half
returns-in_err-half c = search unicodes

pub returns : goal.returns
returns c = search unicodes
