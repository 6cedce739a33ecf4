use Rattle.eval_store.proofs.entries.Entries.{entry-is}
use Rattle.eval_store.proofs.entries.lay_entry.Goals as goal

pub returns : goal.returns
returns c = search entry-is
