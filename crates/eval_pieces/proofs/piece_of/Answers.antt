use Rattle.eval_pieces.proofs.Returns.{pieces, lending}
use Rattle.eval_pieces.proofs.piece_of.Goals as goal

pub returns-then-number_at : goal.returns-then-number_at
returns-then-number_at c = search pieces

pub reference-requires : goal.reference-requires
reference-requires c = (search lending, search lending)

pub returns : goal.returns
returns c = search pieces
