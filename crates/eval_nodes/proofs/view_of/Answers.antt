use Rattle.eval_nodes.proofs.Looks.{views}
use Rattle.eval_nodes.proofs.view_of.Goals as goal

pub returns-then-layer-lt-CAPACITY : goal.returns-then-layer-lt-CAPACITY
returns-then-layer-lt-CAPACITY c = search views

pub returns-then-o-le-ROOM : goal.returns-then-o-le-ROOM
returns-then-o-le-ROOM c = search views

pub returns : goal.returns
returns c = search views
