use Rattle.text_unquoted.proofs.Spelling.{spellings}
use Rattle.text_unquoted.proofs.spells_include.Goals as goal

pub returns-in_err-second : goal.returns-in_err-second
returns-in_err-second c = search (spellings, c.from_residual.ensures)

pub letter-requires-2 : goal.letter-requires-2
letter-requires-2 c = search (spellings, c.in_ok-second.was)

pub returns-in_err-third : goal.returns-in_err-third
returns-in_err-third c = rw c.from_residual-in_err-third.ensures (search (spellings, c.in_ok-second.was, c.in_err-third.was))

pub letter-requires-3 : goal.letter-requires-3
letter-requires-3 c = search (spellings, c.in_ok-third.was)

pub returns-in_err-fourth : goal.returns-in_err-fourth
returns-in_err-fourth c = rw c.from_residual-in_err-fourth.ensures (search (spellings, c.in_ok-second.was, c.in_ok-third.was, c.in_err-fourth.was))

pub four-requires : goal.four-requires
four-requires c = search (spellings, c.in_ok-fourth.was)

pub returns : goal.returns
returns c = search (spellings, c.in_ok-second.was, c.in_ok-third.was, c.in_ok-fourth.was)
