use Rattle.eval_store.proofs.entries.Entries.{add-undefined}
use Rattle.eval_store.proofs.entries.add_undefined.Goals as goal

pub returns : goal.returns
returns c = search add-undefined
