use Rattle.eval_leaves.proofs.Simples.{simple-laws}
use Rattle.eval_leaves.proofs.put_simple.Goals as goal

pub returns-then-kind-eq-NULL : goal.returns-then-kind-eq-NULL
returns-then-kind-eq-NULL c = search simple-laws

pub returns-then-kind-eq-FALSE : goal.returns-then-kind-eq-FALSE
returns-then-kind-eq-FALSE c = search simple-laws

pub returns-then-kind-eq-TRUE : goal.returns-then-kind-eq-TRUE
returns-then-kind-eq-TRUE c = search simple-laws

pub returns-then-kind-eq-NUMBER : goal.returns-then-kind-eq-NUMBER
returns-then-kind-eq-NUMBER c = search simple-laws

pub returns : goal.returns
returns c = search simple-laws
