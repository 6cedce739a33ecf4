use Rattle.std.proofs.lemmas.Result.{err_from_is_err_and}
use Rattle.text_strings.proofs.Pieces.{pieces}
use Rattle.text_strings.proofs.next_piece.Goals as goal

pub returns-then-ch-eq-QUOTE : goal.returns-then-ch-eq-QUOTE
returns-then-ch-eq-QUOTE c = search pieces

pub returns-then-ch-lt-FIRST_PRINTABLE : goal.returns-then-ch-lt-FIRST_PRINTABLE
returns-then-ch-lt-FIRST_PRINTABLE c = search pieces

pub escape-requires : goal.escape-requires
escape-requires c = search pieces

pub returns-in_err-text : goal.returns-in_err-text
returns-in_err-text c =
    let p = err_from_is_err_and c.from_residual.result c.from_residual.ensures.1 in
    rw (p.1, p.2) (search (pieces, c.in_err-text.was))

pub returns-then-ch-eq-BACKSLASH : goal.returns-then-ch-eq-BACKSLASH
returns-then-ch-eq-BACKSLASH c = search (pieces, c.in_ok-text.was)

pub copy-used-requires : goal.copy-used-requires
copy-used-requires c = search pieces

pub returns-in_default : goal.returns-in_default
returns-in_default c = search pieces

pub returns : goal.returns
returns c = search pieces
