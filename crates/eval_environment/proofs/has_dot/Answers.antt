use Rattle.eval_environment.proofs.Comparing.{dots}
use Rattle.eval_environment.proofs.has_dot.Goals as goal

pub returns-then-used-eq0 : goal.returns-then-used-eq0
returns-then-used-eq0 c = search dots

pub returns : goal.returns
returns c = search dots
