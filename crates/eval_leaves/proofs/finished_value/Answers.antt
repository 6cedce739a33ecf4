use Rattle.eval_leaves.proofs.Leaves.{finished-laws}
use Rattle.eval_leaves.proofs.finished_value.Goals as goal

pub returns-then-at-gt-ROOM : goal.returns-then-at-gt-ROOM
returns-then-at-gt-ROOM c = search finished-laws

pub returns : goal.returns
returns c = search finished-laws
