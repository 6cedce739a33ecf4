use Rattle.text_chars.proofs.Positions.{walks}
use Rattle.text_chars.proofs.position_of.Goals as goal

pub loop-here-init : goal.loop-here-init
loop-here-init c = search walks

pub step-here-requires : goal.step-here-requires
step-here-requires c = search walks

pub loop-here-smaller : goal.loop-here-smaller
loop-here-smaller c = search walks

pub loop-here-preserved : goal.loop-here-preserved
loop-here-preserved c = search walks

pub returns : goal.returns
returns c = search walks
