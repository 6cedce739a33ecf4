use Rattle.job_root.proofs.Checks.{roots}
use Rattle.job_root.proofs.check_root.Goals as goal

pub root_value-requires : goal.root_value-requires
root_value-requires c = search roots

pub check_table-requires : goal.check_table-requires
check_table-requires c = search roots

pub returns-in-Done : goal.returns-in-Done
returns-in-Done c = search roots

pub returns-in-Undefined : goal.returns-in-Undefined
returns-in-Undefined c = search roots

pub returns-in-Needs : goal.returns-in-Needs
returns-in-Needs c = search roots
