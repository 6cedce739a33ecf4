use Rattle.eval_concat.proofs.Joining.{answer-laws}
use Rattle.eval_concat.proofs.join_answer.Goals as goal

pub returns-in-Blank : goal.returns-in-Blank
returns-in-Blank c = search answer-laws

pub returns-in-Object : goal.returns-in-Object
returns-in-Object c = search answer-laws

pub returns-in-Array : goal.returns-in-Array
returns-in-Array c = search answer-laws

pub returns-in-Simple : goal.returns-in-Simple
returns-in-Simple c = search answer-laws
