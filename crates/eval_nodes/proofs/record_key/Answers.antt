use Rattle.eval_nodes.proofs.Keys.{record-keys}
use Rattle.eval_nodes.proofs.record_key.Goals as goal

pub returns-then-o-lt-WORD : goal.returns-then-o-lt-WORD
returns-then-o-lt-WORD c = search record-keys

pub returns-then-o-gt-ROOM : goal.returns-then-o-gt-ROOM
returns-then-o-gt-ROOM c = search record-keys

pub returns : goal.returns
returns c = search record-keys
