use Rattle.eval_look_back.proofs.Keys.{keys}
use Rattle.eval_look_back.proofs.has_key.Goals as goal

pub loop-element-init : goal.loop-element-init
loop-element-init c = search keys

pub returns-then-number_at-key : goal.returns-then-number_at-key
returns-then-number_at-key c = search keys

pub loop-element-preserved : goal.loop-element-preserved
loop-element-preserved c = search keys

pub returns : goal.returns
returns c = search keys
