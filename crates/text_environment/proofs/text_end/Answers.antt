use Rattle.text_environment.proofs.Ends.{texts}
use Rattle.text_environment.proofs.text_end.Goals as goal

pub loop-p-init : goal.loop-p-init
loop-p-init c = search texts

pub returns-then-env_byte-eq-NUL : goal.returns-then-env_byte-eq-NUL
returns-then-env_byte-eq-NUL c = search texts

pub loop-p-preserved : goal.loop-p-preserved
loop-p-preserved c = search texts

pub returns : goal.returns
returns c = search texts
