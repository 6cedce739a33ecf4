use Rattle.eval_outcomes.proofs.newest.Newest.{froms}
use Rattle.eval_outcomes.proofs.newest.piece_from.Goals as goal

pub returns-then-from-eq-JUST_BEGUN : goal.returns-then-from-eq-JUST_BEGUN
returns-then-from-eq-JUST_BEGUN c = search froms

pub returns : goal.returns
returns c = search froms
