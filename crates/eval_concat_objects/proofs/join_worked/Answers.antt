use Rattle.std.proofs.lemmas.Result.{err_from_is_err_and}
use Rattle.eval_concat_objects.proofs.Returns.{workings}
use Rattle.eval_concat_objects.proofs.join_worked.Goals as goal

pub returns-in-Needs : goal.returns-in-Needs
returns-in-Needs c = search workings

pub returns-in-Undefined : goal.returns-in-Undefined
returns-in-Undefined c = search workings

pub returns-in_err-joined-in-Done : goal.returns-in_err-joined-in-Done
returns-in_err-joined-in-Done c =
    let p = err_from_is_err_and c.from_residual.result c.from_residual.ensures.1 in
    rw (p.1, p.2) (search (workings, c.in_err-joined-in-Done.was))

pub returns-in_ok-joined-in-Done : goal.returns-in_ok-joined-in-Done
returns-in_ok-joined-in-Done c = search (workings, c.in_ok-joined-in-Done.was)
