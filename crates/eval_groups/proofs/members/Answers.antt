use Rattle.eval_groups.proofs.Objects.{object-addings}
use Rattle.eval_groups.proofs.members.Goals as goal

pub loop-i-init : goal.loop-i-init
loop-i-init c = search object-addings

pub loop-i-preserved : goal.loop-i-preserved
loop-i-preserved c = search object-addings

pub returns : goal.returns
returns c = search object-addings
