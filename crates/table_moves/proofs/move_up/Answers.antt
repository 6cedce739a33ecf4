use Rattle.table_moves.proofs.Moves.{ups}
use Rattle.table_moves.proofs.move_up.Goals as goal

pub loop-j-init : goal.loop-j-init
loop-j-init c = search ups

pub overflow_add-s : goal.overflow_add-s
overflow_add-s c = search ups

pub bounds-s-from : goal.bounds-s-from
bounds-s-from c = search ups

pub overflow_add-s-in-loop-j : goal.overflow_add-s-in-loop-j
overflow_add-s-in-loop-j c = search ups

pub bounds-s-to : goal.bounds-s-to
bounds-s-to c = search ups

pub loop-j-preserved : goal.loop-j-preserved
loop-j-preserved c = search ups

pub shape_of-s : goal.shape_of-s
shape_of-s c = search ups

pub returns : goal.returns
returns c = search ups
