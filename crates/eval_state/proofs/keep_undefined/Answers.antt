use Rattle.eval_state.proofs.Keeps.{undefined-kept}
use Rattle.eval_state.proofs.keep_undefined.Goals as goal

pub returns : goal.returns
returns c = search undefined-kept
