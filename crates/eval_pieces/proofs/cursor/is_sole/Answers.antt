use Rattle.eval_pieces.proofs.cursor.Returns.{sole-laws}
use Rattle.eval_pieces.proofs.cursor.is_sole.Goals as goal

pub returns-then-end-i : goal.returns-then-end-i
returns-then-end-i c = search sole-laws

pub returns-then-number_at : goal.returns-then-number_at
returns-then-number_at c = search sole-laws

pub returns-then-next-end : goal.returns-then-next-end
returns-then-next-end c = search sole-laws

pub returns : goal.returns
returns c = search sole-laws
