use Rattle.text_chars.proofs.Blocks.{passes}
use Rattle.text_chars.proofs.block_passes.Goals as goal

pub returns-then-s-at : goal.returns-then-s-at
returns-then-s-at g c = search passes

pub returns-then-s-at-2 : goal.returns-then-s-at-2
returns-then-s-at-2 g c = search passes

pub loop-i-init : goal.loop-i-init
loop-i-init g c = search passes

pub loop-i-preserved : goal.loop-i-preserved
loop-i-preserved g c = search passes

pub returns : goal.returns
returns g c = search passes
