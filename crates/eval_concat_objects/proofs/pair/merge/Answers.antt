use Rattle.eval_concat_objects.proofs.pair.Returns.{merging, lending}
use Rattle.eval_concat_objects.proofs.pair.merge.Goals as goal

pub object_value-requires : goal.object_value-requires
object_value-requires c = (search lending, search lending)

pub returns-in-Done : goal.returns-in-Done
returns-in-Done c = search merging

pub returns-in-Undefined : goal.returns-in-Undefined
returns-in-Undefined c = search merging

pub returns-in-Needs : goal.returns-in-Needs
returns-in-Needs c = search merging
