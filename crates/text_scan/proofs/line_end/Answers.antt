use Rattle.text_scan.specs.Walks.{line-loop}
use Rattle.text_scan.proofs.line_end.Goals as goal

pub loop-here-init : goal.loop-here-init
loop-here-init c = search line-loop

pub returns-then-here-eq-NEWLINE : goal.returns-then-here-eq-NEWLINE
returns-then-here-eq-NEWLINE c = search line-loop

pub returns-then-here-eq-NO_CHARACTER : goal.returns-then-here-eq-NO_CHARACTER
returns-then-here-eq-NO_CHARACTER c = search line-loop

pub loop-here-smaller : goal.loop-here-smaller
loop-here-smaller c = search line-loop

pub loop-here-preserved : goal.loop-here-preserved
loop-here-preserved c = search line-loop
