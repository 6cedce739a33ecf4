use Rattle.eval_unresolved.proofs.Joined.{several-laws}
use Rattle.eval_unresolved.proofs.several.Goals as goal

pub returns-in-Ok-So : goal.returns-in-Ok-So
returns-in-Ok-So c = search several-laws

pub returns-in-Ok-Needs : goal.returns-in-Ok-Needs
returns-in-Ok-Needs c = search several-laws

pub returns-in-Err : goal.returns-in-Err
returns-in-Err c = search several-laws
