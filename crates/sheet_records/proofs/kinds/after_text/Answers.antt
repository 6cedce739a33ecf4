use Rattle.sheet_records.proofs.kinds.Records.{texts}
use Rattle.sheet_records.proofs.kinds.after_text.Goals as goal

pub returns-then-table-p : goal.returns-then-table-p
returns-then-table-p c = search texts

pub returns-then-n-to : goal.returns-then-n-to
returns-then-n-to c = search texts

pub returns-else-n-to : goal.returns-else-n-to
returns-else-n-to c = search texts

pub returns-else-record_byte-kind : goal.returns-else-record_byte-kind
returns-else-record_byte-kind c = search texts
