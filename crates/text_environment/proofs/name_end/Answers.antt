use Rattle.text_environment.proofs.Ends.{names}
use Rattle.text_environment.proofs.name_end.Goals as goal

pub loop-p-init : goal.loop-p-init
loop-p-init c = search names

pub returns-then-b-eq-NUL : goal.returns-then-b-eq-NUL
returns-then-b-eq-NUL c = search names

pub returns-then-at-p : goal.returns-then-at-p
returns-then-at-p c = search names

pub returns-then-b-eq-EQUALS : goal.returns-then-b-eq-EQUALS
returns-then-b-eq-EQUALS c = search names

pub loop-p-preserved : goal.loop-p-preserved
loop-p-preserved c = search names

pub returns : goal.returns
returns c = search names
