use Rattle.eval_ahead.proofs.Finished.{finished-laws}
use Rattle.eval_ahead.proofs.is_finished.Goals as goal

pub overflow_add-lo : goal.overflow_add-lo
overflow_add-lo c = search finished-laws

pub code_at-requires : goal.code_at-requires
code_at-requires c = search finished-laws

pub returns-then-hi-lo : goal.returns-then-hi-lo
returns-then-hi-lo c = search finished-laws

pub returns-in-One : goal.returns-in-One
returns-in-One c = search finished-laws

pub returns-else-hi-lo : goal.returns-else-hi-lo
returns-else-hi-lo c = search finished-laws

pub returns-in-Text : goal.returns-in-Text
returns-in-Text c = search finished-laws

pub returns-in-Undefined : goal.returns-in-Undefined
returns-in-Undefined c = search finished-laws

pub returns-in-Needs : goal.returns-in-Needs
returns-in-Needs c = search finished-laws

pub returns-in-Missing : goal.returns-in-Missing
returns-in-Missing c = search finished-laws
