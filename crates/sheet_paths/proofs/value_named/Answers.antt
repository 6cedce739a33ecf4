use Rattle.sheet_paths.proofs.Steps.{walks}
use Rattle.sheet_paths.proofs.value_named.Goals as goal

pub loop-i-init : goal.loop-i-init
loop-i-init c = search walks

pub returns-in_err-at : goal.returns-in_err-at
returns-in_err-at c = search (walks, c.in_err-at.was)

pub loop-i-preserved : goal.loop-i-preserved
loop-i-preserved c = search (walks, c.in_ok-at.was)

pub returns : goal.returns
returns c = search walks
