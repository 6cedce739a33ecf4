use Rattle.text_unquoted.proofs.Spelling.{spellings}
use Rattle.text_unquoted.proofs.spells_false.Goals as goal

pub returns-in_err-second : goal.returns-in_err-second
returns-in_err-second c = search (spellings, c.from_residual.ensures)

pub four-requires : goal.four-requires
four-requires c = search (spellings, c.in_ok-second.was)

pub returns : goal.returns
returns c = search (spellings, c.in_ok-second.was)
