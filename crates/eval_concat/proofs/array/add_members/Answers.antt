use Rattle.eval_concat.proofs.array.Arrays.{add-laws}
use Rattle.eval_concat.proofs.array.add_members.Goals as goal

pub overflow_add-count : goal.overflow_add-count
overflow_add-count c = search add-laws

pub returns-in-Simple : goal.returns-in-Simple
returns-in-Simple c = search add-laws

pub returns-in-Object : goal.returns-in-Object
returns-in-Object c = search add-laws

pub returns-in-Blank : goal.returns-in-Blank
returns-in-Blank c = search add-laws

pub returns-in-Array : goal.returns-in-Array
returns-in-Array c = search add-laws
