use Rattle.text_scan.proofs.Lines.{bytes}
use Rattle.text_scan.proofs.line_run.Goals as goal

pub loop-p-init : goal.loop-p-init
loop-p-init c = search bytes

pub loop-p-preserved : goal.loop-p-preserved
loop-p-preserved c = search bytes

pub returns-then-not-is_plain : goal.returns-then-not-is_plain
returns-then-not-is_plain c = search bytes

pub returns : goal.returns
returns c = search bytes
