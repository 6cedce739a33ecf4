use Rattle.sheet_layout.proofs.Runs.{run-laws}
use Rattle.sheet_layout.proofs.lay_run.Goals as goal

pub loop-i-init : goal.loop-i-init
loop-i-init c = search run-laws

pub bounds-room-i : goal.bounds-room-i
bounds-room-i c = search run-laws

pub bounds-part-i : goal.bounds-part-i
bounds-part-i c = search run-laws

pub loop-i-preserved : goal.loop-i-preserved
loop-i-preserved c = search run-laws

pub returns : goal.returns
returns c = search run-laws
