use Rattle.sheet_records.proofs.Values.{members, values}
use Rattle.sheet_records.proofs.+members_end_value_end.Goals as goal

pub members_end-returns-in_err-value : goal.members_end-returns-in_err-value
members_end-returns-in_err-value t c = search (members, c.in_err-value.was)

pub members_end-returns-in_err-here : goal.members_end-returns-in_err-here
members_end-returns-in_err-here t c = search (members, c.in_ok-value.was, c.in_err-here.was)

pub members_end-loop-preserved : goal.members_end-loop-preserved
members_end-loop-preserved t c = search (members, c.in_ok-value.was, c.in_ok-here.was)

pub members_end-returns : goal.members_end-returns
members_end-returns t c = search members

pub value_end-returns-then-levels-eq0 : goal.value_end-returns-then-levels-eq0
value_end-returns-then-levels-eq0 t c = search values

pub value_end-returns-then-table-p : goal.value_end-returns-then-table-p
value_end-returns-then-table-p t c = search values

pub value_end-returns-in-Bad : goal.value_end-returns-in-Bad
value_end-returns-in-Bad t c = search values

pub value_end-returns-in-Plain : goal.value_end-returns-in-Plain
value_end-returns-in-Plain t c = search values

pub value_end-returns-in-Texted : goal.value_end-returns-in-Texted
value_end-returns-in-Texted t c = search values

pub value_end-returns-else-table-p : goal.value_end-returns-else-table-p
value_end-returns-else-table-p t c = search values
