use Rattle.eval_look_back.proofs.Around.{arounds}
use Rattle.eval_look_back.proofs.field_around.Goals as goal

pub loop-at-init : goal.loop-at-init
loop-at-init c = search arounds

pub returns-then-item-next : goal.returns-then-item-next
returns-then-item-next c = search arounds

pub returns-then-next-at : goal.returns-then-next-at
returns-then-next-at c = search arounds

pub loop-at-preserved-then-kind-lt-PIECE : goal.loop-at-preserved-then-kind-lt-PIECE
loop-at-preserved-then-kind-lt-PIECE c = search arounds

pub loop-at-preserved : goal.loop-at-preserved
loop-at-preserved c = search arounds

pub returns : goal.returns
returns c = search arounds
