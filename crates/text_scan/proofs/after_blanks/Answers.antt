use Rattle.text_scan.proofs.Gaps.{blanks}
use Rattle.text_scan.proofs.after_blanks.Goals as goal

pub loop-p-init : goal.loop-p-init
loop-p-init c = search blanks

pub loop-p-preserved : goal.loop-p-preserved
loop-p-preserved c = search blanks

pub returns-then-s-p-ne-BLANK : goal.returns-then-s-p-ne-BLANK
returns-then-s-p-ne-BLANK c = search blanks

pub returns : goal.returns
returns c = search blanks
