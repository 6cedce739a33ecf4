use Rattle.text_pieces.proofs.Tokens.{text-pieces}
use Rattle.text_pieces.proofs.text_piece.Goals as goal

pub returns-in-True : goal.returns-in-True
returns-in-True c = search text-pieces

pub returns-in-False : goal.returns-in-False
returns-in-False c = search text-pieces

pub returns-in-Null : goal.returns-in-Null
returns-in-Null c = search text-pieces

pub returns-in-Other : goal.returns-in-Other
returns-in-Other c = search text-pieces
