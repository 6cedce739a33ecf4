use Rattle.job_root.proofs.output.Ends.{judges, smalls}
use Rattle.job_root.proofs.output.judge_table.Goals as goal

pub table_fits-requires : goal.table_fits-requires
table_fits-requires c = search smalls

pub returns-then-table_fits : goal.returns-then-table_fits
returns-then-table_fits c = search judges

pub returns-then-is_within : goal.returns-then-is_within
returns-then-is_within c = search judges

pub returns : goal.returns
returns c = search judges
