use Rattle.eval_trail.proofs.Laying.{nones}
use Rattle.eval_trail.proofs.lay_undefined.Goals as goal

pub add_undefined-requires : goal.add_undefined-requires
add_undefined-requires c = search nones

pub returns-then-has_room : goal.returns-then-has_room
returns-then-has_room c = search nones

pub returns : goal.returns
returns c = search nones
