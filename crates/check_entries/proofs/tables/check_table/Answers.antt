use Rattle.check_entries.proofs.tables.Tables.{tables}
use Rattle.check_entries.proofs.tables.check_table.Goals as goal

pub returns-then-table-rec : goal.returns-then-table-rec
returns-then-table-rec c = search tables

pub overflow_add-texts : goal.overflow_add-texts
overflow_add-texts c = search tables

pub returns-then-text-texts : goal.returns-then-text-texts
returns-then-text-texts c = search tables

pub same_value-requires : goal.same_value-requires
same_value-requires c = search tables

pub returns-then-within_size : goal.returns-then-within_size
returns-then-within_size c = search tables

pub returns : goal.returns
returns c = search tables
