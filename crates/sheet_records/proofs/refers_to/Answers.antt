use Rattle.sheet_records.proofs.Keys.{references}
use Rattle.sheet_records.proofs.refers_to.Goals as goal

pub returns : goal.returns
returns c = search references
