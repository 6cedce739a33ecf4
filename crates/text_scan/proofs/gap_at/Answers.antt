use Rattle.text_scan.proofs.Gaps.{gaps}
use Rattle.text_scan.proofs.gap_at.Goals as goal

pub loop-more-init : goal.loop-more-init
loop-more-init c = search gaps

pub loop-more-smaller : goal.loop-more-smaller
loop-more-smaller c = search gaps

pub loop-more-preserved : goal.loop-more-preserved
loop-more-preserved c = search gaps

pub returns : goal.returns
returns c = search gaps
