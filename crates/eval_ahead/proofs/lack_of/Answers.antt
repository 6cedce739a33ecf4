use Rattle.eval_ahead.proofs.Looking.{lack-laws}
use Rattle.eval_ahead.proofs.lack_of.Goals as goal

pub returns-in-Ok-Needs : goal.returns-in-Ok-Needs
returns-in-Ok-Needs c = search lack-laws

pub returns-in-Ok-Done : goal.returns-in-Ok-Done
returns-in-Ok-Done c = search lack-laws

pub returns-in-Ok-Undefined : goal.returns-in-Ok-Undefined
returns-in-Ok-Undefined c = search lack-laws

pub returns-in-Err : goal.returns-in-Err
returns-in-Err c = search lack-laws
