use Rattle.eval_store.proofs.entries.Entries.{start-laws}
use Rattle.eval_store.proofs.entries.start_entry.Goals as goal

pub bounds-rest-1 : goal.bounds-rest-1
bounds-rest-1 c = search start-laws

pub returns : goal.returns
returns c = search start-laws
