use Rattle.eval_store.proofs.compare.Compared.{entry-laws}
use Rattle.eval_store.proofs.compare.same_entry.Goals as goal

pub returns-then-same_start : goal.returns-then-same_start
returns-then-same_start c = search entry-laws

pub returns : goal.returns
returns c = search entry-laws
