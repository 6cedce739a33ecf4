use Rattle.table_records.proofs.Laws.{keys}
use Rattle.table_records.proofs.key_is.Goals as goal

pub returns : goal.returns
returns c = search keys
