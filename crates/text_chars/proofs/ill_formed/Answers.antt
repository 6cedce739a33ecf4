use Rattle.text_chars.proofs.Utf8.{formed}
use Rattle.text_chars.proofs.ill_formed.Goals as goal

pub loop-at-init : goal.loop-at-init
loop-at-init c = search formed

pub returns-then-n-eq0 : goal.returns-then-n-eq0
returns-then-n-eq0 c = search formed

pub loop-at-preserved : goal.loop-at-preserved
loop-at-preserved c = search formed

pub returns : goal.returns
returns c = search formed
