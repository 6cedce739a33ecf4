use Rattle.std.proofs.lemmas.Result.{err_from_is_err_and}
use Rattle.read_scalars.proofs.Scalars.{scalars, asks-unquoted, asks-plain}
use Rattle.read_scalars.proofs.scalar.Goals as goal

pub copy_written-requires : goal.copy_written-requires
copy_written-requires c = search (asks-unquoted, c.in_ok-next.was)

pub copy_written-requires-in-Plain : goal.copy_written-requires-in-Plain
copy_written-requires-in-Plain c = search (asks-plain, c.in_ok-next.was)

pub returns-in_err-next : goal.returns-in_err-next
returns-in_err-next c =
    let p = err_from_is_err_and c.from_residual.result c.from_residual.ensures.1 in
    rw (p.1, p.2) (search (scalars, c.in_err-next.was))

pub returns-in-Quoted : goal.returns-in-Quoted
returns-in-Quoted c = search (scalars, c.in_ok-next.was)

pub returns-in-Unquoted : goal.returns-in-Unquoted
returns-in-Unquoted c = search (scalars, c.in_ok-next.was)

pub returns-in-Plain : goal.returns-in-Plain
returns-in-Plain c = search (scalars, c.in_ok-next.was)
