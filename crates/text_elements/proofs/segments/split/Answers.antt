use Rattle.text_elements.proofs.segments.Splitting.{splits}
use Rattle.text_elements.proofs.segments.split.Goals as goal

pub loop-i-init : goal.loop-i-init
loop-i-init c = search splits

pub loop-i-preserved : goal.loop-i-preserved
loop-i-preserved c = search splits

pub returns : goal.returns
returns c = search splits
