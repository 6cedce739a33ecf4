use Rattle.text_unquoted.proofs.Spelling.{words}
use Rattle.text_unquoted.proofs.word_at.Goals as goal

pub returns-in-Some : goal.returns-in-Some
returns-in-Some c = search words

pub returns-in-None : goal.returns-in-None
returns-in-None c = search words

pub returns-in-Some-spells_false : goal.returns-in-Some-spells_false
returns-in-Some-spells_false c = search words

pub returns-in-None-spells_false : goal.returns-in-None-spells_false
returns-in-None-spells_false c = search words

pub returns-in-Some-four : goal.returns-in-Some-four
returns-in-Some-four c = search words

pub returns-in-None-four : goal.returns-in-None-four
returns-in-None-four c = search words

pub returns : goal.returns
returns c = search words
