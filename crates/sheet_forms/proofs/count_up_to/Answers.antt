use Rattle.sheet_forms.proofs.Forms.{count-laws}
use Rattle.sheet_forms.proofs.count_up_to.Goals as goal

pub loop-p-init : goal.loop-p-init
loop-p-init c = search count-laws

pub with_member-n-requires : goal.with_member-n-requires
with_member-n-requires c = search count-laws

pub overflow_add-n : goal.overflow_add-n
overflow_add-n c = search count-laws

pub loop-p-smaller : goal.loop-p-smaller
loop-p-smaller c = search count-laws

pub loop-p-preserved : goal.loop-p-preserved
loop-p-preserved c = search count-laws

pub returns : goal.returns
returns c = search count-laws
