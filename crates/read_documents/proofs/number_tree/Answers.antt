use Rattle.std.proofs.lemmas.Result.{err_from_is_err_and}
use Rattle.read_documents.proofs.Wholes.{counts}
use Rattle.read_documents.proofs.number_tree.Goals as goal

pub returns-in_err-unresolved : goal.returns-in_err-unresolved
returns-in_err-unresolved c = let p = err_from_is_err_and c.from_residual.result c.from_residual.ensures.1 in rw (p.1, p.2) (search (counts, c.in_err-unresolved.was))

pub returns : goal.returns
returns c = search (counts, c.in_ok-unresolved.was)
