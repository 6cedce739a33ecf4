use Rattle.eval_state.proofs.Keeps.{answer-kept}
use Rattle.eval_state.proofs.keep_answer.Goals as goal

pub returns : goal.returns
returns c = search answer-kept
