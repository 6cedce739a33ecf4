use Rattle.eval_groups.proofs.Entering.{puts}
use Rattle.eval_groups.proofs.put_entry.Goals as goal

pub bounds-work-p-2 : goal.bounds-work-p-2
bounds-work-p-2 c = search puts

pub returns : goal.returns
returns c = search puts
