use Rattle.std.proofs.lemmas.Result.{err_from_is_err_and}
use Rattle.text_pieces.proofs.Tokens.{quoted-pieces}
use Rattle.text_pieces.proofs.quoted_piece.Goals as goal

pub returns-in_err-text : goal.returns-in_err-text
returns-in_err-text c =
    let p = err_from_is_err_and c.from_residual.result c.from_residual.ensures.1 in
    rw (p.1, p.2) (search (quoted-pieces, c.in_err-text.was))

pub returns : goal.returns
returns c = search (quoted-pieces, c.in_ok-text.was)
