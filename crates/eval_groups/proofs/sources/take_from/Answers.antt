use Rattle.eval_groups.proofs.sources.Sources.{taken-from}
use Rattle.eval_groups.proofs.sources.take_from.Goals as goal

pub returns : goal.returns
returns c = search taken-from
