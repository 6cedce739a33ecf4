use Rattle.job_check.proofs.trails.Trails.{entries, entry_case, entry-wrong, entry-number}
use Rattle.job_check.proofs.trails.check_entry.Goals as goal

pub next_number-requires : goal.next_number-requires
next_number-requires c = search entries

pub item_of-item-requires : goal.item_of-item-requires
item_of-item-requires c = search (entries, c.in_ok-b.was)

pub unresolved_value-outcome-requires : goal.unresolved_value-outcome-requires
unresolved_value-outcome-requires c = search (entries, c.in_ok-b.was)

pub check_outcome-requires : goal.check_outcome-requires
check_outcome-requires c = entry_case c.requires c.next_number.ensures c.in_ok-b.was c.item_of-item.ensures c.unresolved_value-outcome.ensures

pub returns-in_err-b : goal.returns-in_err-b
returns-in_err-b c = rw c.from_residual.ensures (entry-wrong c.requires c.next_number.ensures c.in_err-b.was)

pub returns : goal.returns
returns c = entry-number c.requires c.next_number.ensures c.in_ok-b.was c.item_of-item.ensures c.unresolved_value-outcome.ensures c.check_outcome.ensures
