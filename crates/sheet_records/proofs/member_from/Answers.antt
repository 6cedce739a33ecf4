use Rattle.sheet_records.proofs.Keys.{looks}
use Rattle.sheet_records.proofs.member_from.Goals as goal

pub returns-then-refers_to : goal.returns-then-refers_to
returns-then-refers_to c = search looks

pub returns-in_err-here : goal.returns-in_err-here
returns-in_err-here c = search (looks, c.in_err-here.was)

pub loop-preserved : goal.loop-preserved
loop-preserved c = search (looks, c.in_ok-here.was)

pub returns : goal.returns
returns c = search looks
