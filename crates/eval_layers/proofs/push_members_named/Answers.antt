use Rattle.eval_layers.proofs.Picks.{picks}
use Rattle.eval_layers.proofs.push_members_named.Goals as goal

pub loop-t-init : goal.loop-t-init
loop-t-init c = search picks

pub returns-in-End : goal.returns-in-End
returns-in-End c = search picks

pub loop-t-smaller-in-Seam : goal.loop-t-smaller-in-Seam
loop-t-smaller-in-Seam c = search picks

pub loop-t-preserved-in-Seam : goal.loop-t-preserved-in-Seam
loop-t-preserved-in-Seam c = search picks

pub push_named-t-requires : goal.push_named-t-requires
push_named-t-requires c = search picks

pub loop-t-smaller : goal.loop-t-smaller
loop-t-smaller c = search picks

pub loop-t-preserved : goal.loop-t-preserved
loop-t-preserved c = search picks
