use Rattle.sheet_layout.proofs.Loops.{lay-laws}
use Rattle.sheet_layout.proofs.lay_form.Goals as goal

pub loop-len-init : goal.loop-len-init
loop-len-init c = search lay-laws

pub returns-then-n-eq0 : goal.returns-then-n-eq0
returns-then-n-eq0 c = search lay-laws

pub store-requires : goal.store-requires
store-requires c = search lay-laws

pub overflow_add-p : goal.overflow_add-p
overflow_add-p c = search lay-laws

pub lay_run-end-requires : goal.lay_run-end-requires
lay_run-end-requires c = search lay-laws

pub loop-len-smaller-then-n-eq-PLAIN : goal.loop-len-smaller-then-n-eq-PLAIN
loop-len-smaller-then-n-eq-PLAIN c = search lay-laws

pub loop-len-preserved-then-n-eq-PLAIN : goal.loop-len-preserved-then-n-eq-PLAIN
loop-len-preserved-then-n-eq-PLAIN c = search lay-laws

pub loop-len-smaller : goal.loop-len-smaller
loop-len-smaller c = search lay-laws

pub loop-len-preserved : goal.loop-len-preserved
loop-len-preserved c = search lay-laws
