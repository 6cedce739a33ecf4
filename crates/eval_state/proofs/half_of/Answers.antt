use Rattle.eval_state.proofs.Keeps.{halves}
use Rattle.eval_state.proofs.half_of.Goals as goal

pub returns-then-second : goal.returns-then-second
returns-then-second c = search halves

pub returns-else-second : goal.returns-else-second
returns-else-second c = search halves
