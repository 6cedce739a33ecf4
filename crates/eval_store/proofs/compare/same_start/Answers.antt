use Rattle.eval_store.proofs.compare.Compared.{start_is}
use Rattle.eval_store.proofs.compare.same_start.Goals as goal

pub returns : goal.returns
returns c = search start_is
