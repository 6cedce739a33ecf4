use Rattle.eval_groups.proofs.sources.Sources.{members-are}
use Rattle.eval_groups.proofs.sources.members_from.Goals as goal

pub returns : goal.returns
returns c = search members-are
