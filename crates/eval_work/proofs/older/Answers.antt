use Rattle.eval_work.proofs.Evaluated.{olders}
use Rattle.eval_work.proofs.older.Goals as goal

pub overflow_sub-result : goal.overflow_sub-result
overflow_sub-result c = search olders

pub overflow_sub-result-in-Undefined : goal.overflow_sub-result-in-Undefined
overflow_sub-result-in-Undefined c = search olders

pub overflow_sub-result-in-Refused : goal.overflow_sub-result-in-Refused
overflow_sub-result-in-Refused c = search olders

pub returns-in-Needs : goal.returns-in-Needs
returns-in-Needs c = search olders

pub returns-in-Done : goal.returns-in-Done
returns-in-Done c = search olders

pub returns-in-Undefined : goal.returns-in-Undefined
returns-in-Undefined c = search olders

pub returns-in-Refused : goal.returns-in-Refused
returns-in-Refused c = search olders
