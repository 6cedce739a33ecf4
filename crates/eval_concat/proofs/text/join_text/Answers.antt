use Rattle.eval_concat.proofs.text.Texts.{text-laws}
use Rattle.eval_concat.proofs.text.join_text.Goals as goal

pub returns-then-text-gt-TEXT : goal.returns-then-text-gt-TEXT
returns-then-text-gt-TEXT c = search text-laws

pub returns-in-Array : goal.returns-in-Array
returns-in-Array c = search text-laws

pub returns-in-Object : goal.returns-in-Object
returns-in-Object c = search text-laws

pub returns-in-Blank : goal.returns-in-Blank
returns-in-Blank c = search text-laws

pub returns-in-Simple : goal.returns-in-Simple
returns-in-Simple c = search text-laws
