use Rattle.eval_store.proofs.entries.Entries.{undefined-is}
use Rattle.eval_store.proofs.entries.lay_undefined.Goals as goal

pub returns : goal.returns
returns c = search undefined-is
