use Rattle.read_values.proofs.Adding.{adds}
use Rattle.read_values.proofs.add.Goals as goal

pub returns-then-run-eq0 : goal.returns-then-run-eq0
returns-then-run-eq0 c = search adds

pub returns-then-kind-ge-REQUIRED : goal.returns-then-kind-ge-REQUIRED
returns-then-kind-ge-REQUIRED c = search adds

pub returns-then-run : goal.returns-then-run
returns-then-run c = search adds

pub returns : goal.returns
returns c = search adds
