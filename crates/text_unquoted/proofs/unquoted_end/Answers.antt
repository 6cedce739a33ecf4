use Rattle.text_scan.specs.Walks.{unquoted-loop}
use Rattle.text_unquoted.proofs.unquoted_end.Goals as goal

pub loop-run-init : goal.loop-run-init
loop-run-init c = search unquoted-loop

pub returns-then-stops_unquoted : goal.returns-then-stops_unquoted
returns-then-stops_unquoted c = search unquoted-loop

pub loop-run-smaller : goal.loop-run-smaller
loop-run-smaller c = search unquoted-loop

pub loop-run-preserved : goal.loop-run-preserved
loop-run-preserved c = search unquoted-loop
