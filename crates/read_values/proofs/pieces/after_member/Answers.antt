use Rattle.std.proofs.lemmas.Result.{err_from_is_err_and}
use Rattle.read_values.proofs.pieces.Members.{behinds}
use Rattle.read_values.proofs.pieces.after_member.Goals as goal

pub returns-in_err-next : goal.returns-in_err-next
returns-in_err-next c = let p = err_from_is_err_and c.from_residual.result c.from_residual.ensures.1 in rw (p.1, p.2) (search (behinds, c.in_err-next.was))

pub returns : goal.returns
returns c = search (behinds, c.in_ok-next.was)
