use Rattle.read_values.proofs.Judging.{judges}
use Rattle.read_values.proofs.judge.Goals as goal

pub returns-then-run-eq0 : goal.returns-then-run-eq0
returns-then-run-eq0 c = search judges

pub returns-then-run : goal.returns-then-run
returns-then-run c = search judges

pub returns-then-run-2 : goal.returns-then-run-2
returns-then-run-2 c = search judges

pub returns-then-kind-gt-STRING : goal.returns-then-kind-gt-STRING
returns-then-kind-gt-STRING c = search judges

pub returns-then-run-eq1 : goal.returns-then-run-eq1
returns-then-run-eq1 c = search judges

pub returns : goal.returns
returns c = search judges
