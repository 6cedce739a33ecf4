use Rattle.sheet_records.proofs.kinds.Records.{starts}
use Rattle.sheet_records.proofs.kinds.value_start.Goals as goal

pub returns-then-keyed : goal.returns-then-keyed
returns-then-keyed c = search starts

pub returns-else-keyed : goal.returns-else-keyed
returns-else-keyed c = search starts
