use Rattle.eval_groups.proofs.sources.Sources.{key-from}
use Rattle.eval_groups.proofs.sources.entry_key.Goals as goal

pub returns : goal.returns
returns c = search key-from
