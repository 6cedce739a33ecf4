use Rattle.job_look_up.proofs.Answers.{handed, part-inside, part-fits}
use borrow.Author.Rules.{rules}
use Rattle.job_look_up.proofs.look_up.Goals as goal

pub overflow_add-e : goal.overflow_add-e
overflow_add-e c = search part-fits

pub slice_bounds-result-end : goal.slice_bounds-result-end
slice_bounds-result-end c = search (rules, part-inside)

pub returns-in-Ok : goal.returns-in-Ok
returns-in-Ok c = search handed

pub returns-in-Err : goal.returns-in-Err
returns-in-Err c = search handed
