use Rattle.sheet_layout.proofs.Loops.{compare-laws}
use Rattle.sheet_layout.proofs.same_records.Goals as goal

pub loop-len-init : goal.loop-len-init
loop-len-init c = search compare-laws

pub returns-then-n-eq0 : goal.returns-then-n-eq0
returns-then-n-eq0 c = search compare-laws

pub same_record-requires : goal.same_record-requires
same_record-requires c = search compare-laws

pub overflow_add-p : goal.overflow_add-p
overflow_add-p c = search compare-laws

pub loop-len-smaller : goal.loop-len-smaller
loop-len-smaller c = search compare-laws

pub loop-len-preserved : goal.loop-len-preserved
loop-len-preserved c = search compare-laws

pub returns-else-same_record : goal.returns-else-same_record
returns-else-same_record c = search compare-laws
