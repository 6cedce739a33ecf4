use Rattle.doc_items.proofs.Reading.{reads}
use Rattle.doc_items.proofs.number_at.Goals as goal

pub returns-else-at-table : goal.returns-else-at-table
returns-else-at-table c = search reads
