use Rattle.eval_concat.proofs.Joining.{object-laws}
use Rattle.eval_concat.proofs.join_object.Goals as goal

pub returns-in-Simple : goal.returns-in-Simple
returns-in-Simple c = search object-laws

pub returns-in-Array : goal.returns-in-Array
returns-in-Array c = search object-laws

pub returns-in-Blank : goal.returns-in-Blank
returns-in-Blank c = search object-laws

pub returns-in-Object : goal.returns-in-Object
returns-in-Object c = search object-laws

pub returns-then-not-is_within : goal.returns-then-not-is_within
returns-then-not-is_within c = search object-laws
