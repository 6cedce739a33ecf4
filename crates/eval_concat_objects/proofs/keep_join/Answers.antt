use Rattle.eval_concat_objects.proofs.Returns.{keeping}
use Rattle.eval_concat_objects.proofs.keep_join.Goals as goal

pub keep_pair-requires : goal.keep_pair-requires
keep_pair-requires c = search keeping

pub returns-in-Object : goal.returns-in-Object
returns-in-Object c = search keeping

pub returns-in-Blank : goal.returns-in-Blank
returns-in-Blank c = search keeping

pub returns-in-Simple : goal.returns-in-Simple
returns-in-Simple c = search keeping

pub returns-in-Array : goal.returns-in-Array
returns-in-Array c = search keeping
