use Rattle.eval_groups.proofs.sources.Sources.{element-from}
use Rattle.eval_groups.proofs.sources.element_at.Goals as goal

pub returns : goal.returns
returns c = search element-from
