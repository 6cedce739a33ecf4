use Rattle.eval_copy.proofs.runs.Runs.{put-laws}
use Rattle.eval_copy.proofs.runs.put_run.Goals as goal

pub returns-then-at-ge-RECORDS : goal.returns-then-at-ge-RECORDS
returns-then-at-ge-RECORDS c = search put-laws

pub returns : goal.returns
returns c = search put-laws
