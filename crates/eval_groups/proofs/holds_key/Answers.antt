use Rattle.eval_groups.proofs.Entering.{holdings}
use Rattle.eval_groups.proofs.holds_key.Goals as goal

pub returns-then-p-base : goal.returns-then-p-base
returns-then-p-base c = search holdings

pub returns-then-p-top : goal.returns-then-p-top
returns-then-p-top c = search holdings

pub returns : goal.returns
returns c = search holdings
