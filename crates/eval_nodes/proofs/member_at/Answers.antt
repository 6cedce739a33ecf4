use Rattle.eval_nodes.proofs.Looks.{members_of}
use Rattle.eval_nodes.proofs.member_at.Goals as goal

pub returns-then-e-p : goal.returns-then-e-p
returns-then-e-p c = search members_of

pub returns-then-p-lt-CAPACITY : goal.returns-then-p-lt-CAPACITY
returns-then-p-lt-CAPACITY c = search members_of

pub returns-then-o-le-ROOM : goal.returns-then-o-le-ROOM
returns-then-o-le-ROOM c = search members_of

pub returns : goal.returns
returns c = search members_of
