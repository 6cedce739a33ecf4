use Rattle.std.proofs.lemmas.Result.{err_from_is_err_and}
use Rattle.eval_concat_objects.proofs.Returns.{writing}
use Rattle.eval_concat_objects.proofs.join_written.Goals as goal

pub join_over-requires : goal.join_over-requires
join_over-requires c = search (writing, c.in_ok-k.was)

pub returns-in_err-k : goal.returns-in_err-k
returns-in_err-k c =
    let p = err_from_is_err_and c.from_residual.result c.from_residual.ensures.1 in
    rw (p.1, p.2) (search (writing, c.in_err-k.was))

pub returns-in-Some : goal.returns-in-Some
returns-in-Some c = search (writing, c.in_ok-k.was)

pub returns-in-None : goal.returns-in-None
returns-in-None c = search (writing, c.in_ok-k.was)
