use Rattle.read_numbering.proofs.Passes.{passes}
use Rattle.read_numbering.proofs.number_items.Goals as goal

pub loop-i-init : goal.loop-i-init
loop-i-init c = search passes

pub returns-in-Err : goal.returns-in-Err
returns-in-Err c = search passes

pub loop-i-preserved : goal.loop-i-preserved
loop-i-preserved c = search passes

pub returns : goal.returns
returns c = search passes
