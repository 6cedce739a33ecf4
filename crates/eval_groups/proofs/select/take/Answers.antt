use Rattle.eval_groups.proofs.select.Walks.{takes}
use Rattle.eval_groups.proofs.select.take.Goals as goal

pub returns-then-top-q : goal.returns-then-top-q
returns-then-top-q c = search takes

pub loop-taken-init : goal.loop-taken-init
loop-taken-init c = search takes

pub returns-in-End : goal.returns-in-End
returns-in-End c = search takes

pub loop-taken-smaller : goal.loop-taken-smaller
loop-taken-smaller c = search takes

pub loop-taken-preserved : goal.loop-taken-preserved
loop-taken-preserved c = search takes
