use Rattle.eval_unresolved.proofs.Returns.{either-laws}
use Rattle.eval_unresolved.proofs.unresolved_value.Goals as goal

pub sole-requires : goal.sole-requires
sole-requires c = search either-laws

pub returns-then-is_sole : goal.returns-then-is_sole
returns-then-is_sole c = search either-laws

pub returns : goal.returns
returns c = search either-laws
