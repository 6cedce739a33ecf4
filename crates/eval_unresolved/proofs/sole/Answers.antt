use Rattle.eval_unresolved.proofs.Returns.{sole-laws}
use Rattle.eval_unresolved.proofs.sole.Goals as goal

pub piece_of-piece-requires : goal.piece_of-piece-requires
piece_of-piece-requires c = search sole-laws

pub value_of-requires : goal.value_of-requires
value_of-requires c = search sole-laws

pub returns-in-Ok-Done : goal.returns-in-Ok-Done
returns-in-Ok-Done c = search sole-laws

pub returns-in-Ok-Undefined : goal.returns-in-Ok-Undefined
returns-in-Ok-Undefined c = search sole-laws

pub returns-in-Ok-Needs : goal.returns-in-Ok-Needs
returns-in-Ok-Needs c = search sole-laws

pub returns-in-Err : goal.returns-in-Err
returns-in-Err c = search sole-laws
