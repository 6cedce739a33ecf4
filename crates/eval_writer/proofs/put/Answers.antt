use Rattle.eval_writer.proofs.Records.{put-laws}
use Rattle.eval_writer.proofs.put.Goals as goal

pub returns-then-p-lt-RECORDS : goal.returns-then-p-lt-RECORDS
returns-then-p-lt-RECORDS c = search put-laws

pub returns-else-p-lt-RECORDS : goal.returns-else-p-lt-RECORDS
returns-else-p-lt-RECORDS c = search put-laws
