use Rattle.job_check.proofs.Checks.{sheet-asked, checks}
use borrow.Author.Rules.{rules}
use Rattle.job_check.proofs.check.Goals as goal

pub check_sheet-requires : goal.check_sheet-requires
check_sheet-requires c = sheet-asked c.parts_fit-fit.ensures c.read_task.ensures c.in-Ok.is _ _ (search rules) (search rules) (search rules) (search rules) (search rules)

pub returns-in-Err : goal.returns-in-Err
returns-in-Err c = search checks

pub returns-in-Ok : goal.returns-in-Ok
returns-in-Ok c = search checks
