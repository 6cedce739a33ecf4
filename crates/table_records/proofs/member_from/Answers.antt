use Rattle.table_records.proofs.Laws.{seeks}
use Rattle.table_records.proofs.member_from.Goals as goal

pub returns-then-key_is : goal.returns-then-key_is
returns-then-key_is c = search seeks

pub returns-in_err-here : goal.returns-in_err-here
returns-in_err-here c = search (seeks, c.in_err-here.was)

pub loop-preserved : goal.loop-preserved
loop-preserved c = search (seeks, c.in_ok-here.was)

pub returns : goal.returns
returns c = search seeks
