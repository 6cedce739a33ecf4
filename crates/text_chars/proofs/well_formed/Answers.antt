use Rattle.text_chars.proofs.Utf8.{wells}
use Rattle.text_chars.proofs.well_formed.Goals as goal

pub returns-then-ascii_block : goal.returns-then-ascii_block
returns-then-ascii_block c = search wells

pub returns : goal.returns
returns c = search wells
