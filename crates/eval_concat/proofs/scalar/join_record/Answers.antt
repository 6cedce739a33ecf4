use Rattle.eval_concat.proofs.scalar.Scalars.{record-laws}
use Rattle.eval_concat.proofs.scalar.join_record.Goals as goal

pub returns-then-kind-eq-NULL : goal.returns-then-kind-eq-NULL
returns-then-kind-eq-NULL c = search record-laws

pub returns-then-kind-eq-FALSE : goal.returns-then-kind-eq-FALSE
returns-then-kind-eq-FALSE c = search record-laws

pub returns-then-kind-eq-TRUE : goal.returns-then-kind-eq-TRUE
returns-then-kind-eq-TRUE c = search record-laws

pub returns : goal.returns
returns c = search record-laws
