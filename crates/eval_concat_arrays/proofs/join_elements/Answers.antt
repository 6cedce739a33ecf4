use Rattle.std.proofs.lemmas.Result.{err_from_is_err_and}
use Rattle.eval_concat_arrays.proofs.Returns.{elements, members}
use Rattle.eval_concat_arrays.proofs.join_elements.Goals as goal

pub join_members-requires : goal.join_members-requires
join_members-requires c = search members

pub returns-in-Needs : goal.returns-in-Needs
returns-in-Needs c = search elements

pub returns-then-not-is_joinable : goal.returns-then-not-is_joinable
returns-then-not-is_joinable c = search elements

pub returns-in_err-joined-in-Done : goal.returns-in_err-joined-in-Done
returns-in_err-joined-in-Done c =
    let p = err_from_is_err_and c.from_residual.result c.from_residual.ensures.1 in
    rw (p.1, p.2) (search (elements, c.in_err-joined-in-Done.was))

pub returns-in_ok-joined-in-Done : goal.returns-in_ok-joined-in-Done
returns-in_ok-joined-in-Done c = search (elements, c.in_ok-joined-in-Done.was)
