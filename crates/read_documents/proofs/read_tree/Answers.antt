use Rattle.std.proofs.lemmas.Result.{err_from_is_err_and}
use Rattle.read_documents.proofs.Trees.{trees}
use Rattle.read_documents.proofs.read_tree.Goals as goal

pub returns-in-Some : goal.returns-in-Some
returns-in-Some c = search trees

pub returns-in_err-read-in-None : goal.returns-in_err-read-in-None
returns-in_err-read-in-None c = let p = err_from_is_err_and c.from_residual.result c.from_residual.ensures.1 in rw (p.1, p.2) (search (trees, c.in_err-read-in-None.was))

pub returns-in_ok-read-in-None : goal.returns-in_ok-read-in-None
returns-in_ok-read-in-None c = search (trees, c.in_ok-read-in-None.was)
