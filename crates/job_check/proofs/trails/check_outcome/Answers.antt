use Rattle.job_check.proofs.trails.Numbers.{cases}
use Rattle.job_check.proofs.trails.check_outcome.Goals as goal

pub check_answer-requires : goal.check_answer-requires
check_answer-requires c = search cases

pub check_undefined-requires : goal.check_undefined-requires
check_undefined-requires c = search cases

pub returns-in-Done : goal.returns-in-Done
returns-in-Done c = search cases

pub returns-in-Undefined : goal.returns-in-Undefined
returns-in-Undefined c = search cases

pub returns-in-Needs : goal.returns-in-Needs
returns-in-Needs c = search cases

pub returns-in-Refused : goal.returns-in-Refused
returns-in-Refused c = search cases
