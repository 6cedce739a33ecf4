use Rattle.eval_concat_objects.proofs.Returns.{objects-joined}
use Rattle.eval_concat_objects.proofs.join_objects.Goals as goal

pub returns : goal.returns
returns c = search objects-joined
