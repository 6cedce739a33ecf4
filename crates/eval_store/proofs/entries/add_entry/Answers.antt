use Rattle.eval_store.proofs.entries.Entries.{add_is}
use Rattle.eval_store.proofs.entries.add_entry.Goals as goal

pub returns : goal.returns
returns c = search add_is
