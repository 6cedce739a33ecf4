use Rattle.read_references.proofs.Endings.{endings, end-high, low-room}
use Rattle.read_references.proofs.write_ends.Goals as goal

pub loop-i-init : goal.loop-i-init
loop-i-init c = search endings

pub overflow_cast-text : goal.overflow_cast-text
overflow_cast-text c = search end-high

pub bounds-text-k-in-loop-i : goal.bounds-text-k-in-loop-i
bounds-text-k-in-loop-i c = search low-room

pub loop-i-preserved : goal.loop-i-preserved
loop-i-preserved c = search endings

pub returns : goal.returns
returns c = search endings
