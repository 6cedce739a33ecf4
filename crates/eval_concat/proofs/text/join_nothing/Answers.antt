use Rattle.eval_concat.proofs.text.Texts.{nothing-laws}
use Rattle.eval_concat.proofs.text.join_nothing.Goals as goal

pub returns-in-Array : goal.returns-in-Array
returns-in-Array c = search nothing-laws

pub returns-in-Object : goal.returns-in-Object
returns-in-Object c = search nothing-laws

pub returns-in-Blank : goal.returns-in-Blank
returns-in-Blank c = search nothing-laws

pub returns-in-Simple : goal.returns-in-Simple
returns-in-Simple c = search nothing-laws
