use Rattle.eval_keys.proofs.Numberings.{number_keys}
use Rattle.eval_keys.proofs.number_key.Goals as goal

pub returns-then-number_at-ge-PIECE : goal.returns-then-number_at-ge-PIECE
returns-then-number_at-ge-PIECE c = search number_keys

pub returns-then-k-eq0 : goal.returns-then-k-eq0
returns-then-k-eq0 c = search number_keys

pub returns : goal.returns
returns c = search number_keys
