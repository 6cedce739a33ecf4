use Rattle.eval_store.proofs.compare.Compared.{undefined-same}
use Rattle.eval_store.proofs.compare.same_undefined.Goals as goal

pub returns : goal.returns
returns c = search undefined-same
