use Rattle.table_records.proofs.Laws.{ends}
use Rattle.table_records.proofs.ends_at.Goals as goal

pub returns-then-table-end : goal.returns-then-table-end
returns-then-table-end c = search ends

pub returns : goal.returns
returns c = search ends
