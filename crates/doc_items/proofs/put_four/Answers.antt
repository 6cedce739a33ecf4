use Rattle.doc_items.proofs.Writing.{fours}
use Rattle.doc_items.proofs.put_four.Goals as goal

pub bounds-table-at-2 : goal.bounds-table-at-2
bounds-table-at-2 c = search fours

pub bounds-table-at-3 : goal.bounds-table-at-3
bounds-table-at-3 c = search fours

pub bounds-table-at-4 : goal.bounds-table-at-4
bounds-table-at-4 c = search fours

pub returns : goal.returns
returns c = search fours
