use Rattle.eval_pieces.proofs.Returns.{literals}
use Rattle.eval_pieces.proofs.literal.Goals as goal

pub returns-then-number_at : goal.returns-then-number_at
returns-then-number_at c = search literals

pub returns : goal.returns
returns c = search literals
