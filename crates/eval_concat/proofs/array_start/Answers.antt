use Rattle.eval_concat.proofs.Joining.{start-laws}
use Rattle.eval_concat.proofs.array_start.Goals as goal

pub returns-in-Array : goal.returns-in-Array
returns-in-Array c = search start-laws

pub returns-in-Blank : goal.returns-in-Blank
returns-in-Blank c = search start-laws

pub returns-in-Simple : goal.returns-in-Simple
returns-in-Simple c = search start-laws

pub returns-in-Object : goal.returns-in-Object
returns-in-Object c = search start-laws
