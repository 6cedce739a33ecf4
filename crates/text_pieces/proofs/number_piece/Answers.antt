use Rattle.text_pieces.proofs.Tokens.{number-pieces}
use Rattle.text_pieces.proofs.number_piece.Goals as goal

pub returns : goal.returns
returns c = search number-pieces

pub returns-in_default : goal.returns-in_default
returns-in_default c = search number-pieces
