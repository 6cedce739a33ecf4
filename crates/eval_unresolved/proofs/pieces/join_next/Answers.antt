use Rattle.eval_unresolved.proofs.pieces.Joining.{next-laws, next-inside}
use Rattle.eval_unresolved.proofs.pieces.join_next.Goals as goal

pub piece_of-piece-requires : goal.piece_of-piece-requires
piece_of-piece-requires c = search next-laws

pub join_piece-requires : goal.join_piece-requires
join_piece-requires c = (search next-laws, search next-inside)

pub returns : goal.returns
returns c = search next-laws
