use Rattle.eval_look_back.proofs.RootAround.{roots}
use Rattle.eval_look_back.proofs.root_field_around.Goals as goal

pub loop-at-init : goal.loop-at-init
loop-at-init c = search roots

pub returns-then-item-at : goal.returns-then-item-at
returns-then-item-at c = search roots

pub returns-then-item-at-2 : goal.returns-then-item-at-2
returns-then-item-at-2 c = search roots

pub returns-then-next-at : goal.returns-then-next-at
returns-then-next-at c = search roots

pub loop-at-preserved : goal.loop-at-preserved
loop-at-preserved c = search roots

pub returns : goal.returns
returns c = search roots
