use Rattle.eval_root_index.proofs.Linking.{backs}
use Rattle.eval_root_index.proofs.link_back.Goals as goal

pub loop-at-init : goal.loop-at-init
loop-at-init c = search backs

pub loop-at-preserved-then-size-eq0 : goal.loop-at-preserved-then-size-eq0
loop-at-preserved-then-size-eq0 c = search backs

pub loop-at-preserved : goal.loop-at-preserved
loop-at-preserved c = search backs

pub returns : goal.returns
returns c = search backs
