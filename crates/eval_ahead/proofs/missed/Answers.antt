use Rattle.eval_ahead.proofs.Looking.{missed-laws}
use Rattle.eval_ahead.proofs.missed.Goals as goal

pub piece_of-piece-requires : goal.piece_of-piece-requires
piece_of-piece-requires c = search missed-laws

pub is_finished-requires : goal.is_finished-requires
is_finished-requires c = search missed-laws

pub returns-then-is_finished : goal.returns-then-is_finished
returns-then-is_finished c = search missed-laws

pub lack_of-requires : goal.lack_of-requires
lack_of-requires c = search missed-laws

pub returns : goal.returns
returns c = search missed-laws
