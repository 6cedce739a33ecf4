use Rattle.eval_copy.proofs.runs.Runs.{copy-laws}
use Rattle.eval_copy.proofs.runs.copy_run.Goals as goal

pub returns-then-n-eq0 : goal.returns-then-n-eq0
returns-then-n-eq0 c = search copy-laws

pub put_run-requires : goal.put_run-requires
put_run-requires c = search copy-laws

pub overflow_add-result : goal.overflow_add-result
overflow_add-result c = search copy-laws

pub overflow_add-result-2 : goal.overflow_add-result-2
overflow_add-result-2 c = search copy-laws

pub returns : goal.returns
returns c = search copy-laws
