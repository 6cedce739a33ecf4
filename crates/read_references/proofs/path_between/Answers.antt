use Rattle.std.proofs.lemmas.Result.{err_from_is_err_and}
use Rattle.read_references.proofs.References.{betweens, asks-closed}
use Rattle.read_references.proofs.path_between.Goals as goal

pub close_reference-requires : goal.close_reference-requires
close_reference-requires c = search (asks-closed, c.in_ok-path.was)

pub returns-in_err-path : goal.returns-in_err-path
returns-in_err-path c =
    let p = err_from_is_err_and c.from_residual.result c.from_residual.ensures.1 in
    rw (p.1, p.2) (search (betweens, c.in_err-path.was))

pub returns-in_err-next : goal.returns-in_err-next
returns-in_err-next c =
    let p = err_from_is_err_and c.from_residual-in_err-next.result c.from_residual-in_err-next.ensures.1 in
    rw (p.1, p.2) (search (betweens, c.in_ok-path.was, c.in_err-next.was))

pub returns : goal.returns
returns c = search (betweens, c.in_ok-path.was, c.in_ok-next.was)
