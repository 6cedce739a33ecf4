use Rattle.eval_nodes.proofs.Looks.{member-record}
use Rattle.eval_nodes.proofs.record_member.Goals as goal

pub returns : goal.returns
returns c = search member-record
