use Rattle.eval_copy.proofs.runs.Runs.{length-laws}
use Rattle.eval_copy.proofs.runs.run_length.Goals as goal

pub returns-then-keyed : goal.returns-then-keyed
returns-then-keyed c = search length-laws

pub returns : goal.returns
returns c = search length-laws
