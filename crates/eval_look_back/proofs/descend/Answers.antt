use Rattle.eval_look_back.proofs.Looking.{looks}
use Rattle.eval_look_back.proofs.descend.Goals as goal

pub loop-i-init : goal.loop-i-init
loop-i-init c = search looks

pub returns-then-kind-ne-OBJECT : goal.returns-then-kind-ne-OBJECT
returns-then-kind-ne-OBJECT c = search looks

pub returns-then-key-next : goal.returns-then-key-next
returns-then-key-next c = search looks

pub returns-then-inner-item : goal.returns-then-inner-item
returns-then-inner-item c = search looks

pub loop-i-preserved : goal.loop-i-preserved
loop-i-preserved c = search looks

pub returns : goal.returns
returns c = search looks
