use Rattle.table_moves.proofs.Moves.{downs}
use Rattle.table_moves.proofs.move_down.Goals as goal

pub loop-i-init : goal.loop-i-init
loop-i-init c = search downs

pub overflow_add-s : goal.overflow_add-s
overflow_add-s c = search downs

pub bounds-s-from : goal.bounds-s-from
bounds-s-from c = search downs

pub overflow_add-s-in-loop-i : goal.overflow_add-s-in-loop-i
overflow_add-s-in-loop-i c = search downs

pub bounds-s-to : goal.bounds-s-to
bounds-s-to c = search downs

pub loop-i-preserved : goal.loop-i-preserved
loop-i-preserved c = search downs

pub shape_of-s : goal.shape_of-s
shape_of-s c = search downs

pub returns : goal.returns
returns c = search downs
