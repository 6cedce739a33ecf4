use Rattle.eval_keys.proofs.Walks.{finds}
use Rattle.eval_keys.proofs.find_in.Goals as goal

pub loop-r-init : goal.loop-r-init
loop-r-init c = search finds

pub returns-then-has_key : goal.returns-then-has_key
returns-then-has_key c = search finds

pub returns-then-r-next : goal.returns-then-r-next
returns-then-r-next c = search finds

pub loop-r-preserved : goal.loop-r-preserved
loop-r-preserved c = search finds

pub returns : goal.returns
returns c = search finds
