use Rattle.eval_substitutions.proofs.keys.Elements.{beginnings}
use Rattle.eval_substitutions.proofs.keys.begins.Goals as goal

pub returns-then-i-eq0 : goal.returns-then-i-eq0
returns-then-i-eq0 c = search beginnings

pub returns : goal.returns
returns c = search beginnings
