use Rattle.eval_nodes.proofs.Looks.{answers}
use Rattle.eval_nodes.proofs.answer_at.Goals as goal

pub returns-then-a-lt-ANSWER_BOUND : goal.returns-then-a-lt-ANSWER_BOUND
returns-then-a-lt-ANSWER_BOUND c = search answers

pub returns : goal.returns
returns c = search answers
