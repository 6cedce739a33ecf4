use Rattle.eval_outcomes.proofs.refusals.Scanning.{scans}
use Rattle.eval_outcomes.proofs.refusals.first_refusal.Goals as goal

pub loop-i-init : goal.loop-i-init
loop-i-init c = search scans

pub unresolved_value-requires : goal.unresolved_value-requires
unresolved_value-requires c = search scans

pub returns-in-Refused : goal.returns-in-Refused
returns-in-Refused c = search scans

pub loop-i-preserved : goal.loop-i-preserved
loop-i-preserved c = search scans

pub returns : goal.returns
returns c = search scans
