use Rattle.job_check.proofs.trails.Sheets.{root-asked, sheets}
use Rattle.job_check.proofs.trails.check_sheet.Goals as goal

pub check_trail-requires : goal.check_trail-requires
check_trail-requires c = search sheets

pub check_root-requires : goal.check_root-requires
check_root-requires c = root-asked c.check_trail.ensures c.in-Some.is

pub returns-then-check_root : goal.returns-then-check_root
returns-then-check_root c = search sheets

pub returns-in_default : goal.returns-in_default
returns-in_default c = search sheets

pub returns-else-check_root : goal.returns-else-check_root
returns-else-check_root c = search sheets
