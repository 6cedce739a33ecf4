use Rattle.eval_nodes.proofs.answer.Answers.{answers}
use Rattle.eval_nodes.proofs.answer.answer_of.Goals as goal

pub returns-then-a-eq-NONE : goal.returns-then-a-eq-NONE
returns-then-a-eq-NONE c = search answers

pub returns-then-a-eq-UNDEFINED : goal.returns-then-a-eq-UNDEFINED
returns-then-a-eq-UNDEFINED c = search answers

pub returns : goal.returns
returns c = search answers
