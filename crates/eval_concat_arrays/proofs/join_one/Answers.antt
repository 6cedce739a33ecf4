use Rattle.std.proofs.lemmas.Result.{err_from_is_err_and}
use Rattle.eval_concat_arrays.proofs.Returns.{ones, lending}
use Rattle.eval_concat_arrays.proofs.join_one.Goals as goal

pub returns-then-is_array : goal.returns-then-is_array
returns-then-is_array c = search ones

pub join_simple-requires : goal.join_simple-requires
join_simple-requires c = search lending

pub returns-in_err-joined : goal.returns-in_err-joined
returns-in_err-joined c =
    let p = err_from_is_err_and c.from_residual.result c.from_residual.ensures.1 in
    rw (p.1, p.2) (search (ones, c.in_err-joined.was))

pub returns : goal.returns
returns c = search (ones, c.in_ok-joined.was)
