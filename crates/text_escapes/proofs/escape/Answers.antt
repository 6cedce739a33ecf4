use Rattle.std.proofs.lemmas.Result.{err_from_is_err_and}
use Rattle.text_escapes.proofs.Escaping.{escapes}
use Rattle.text_escapes.proofs.escape.Goals as goal

pub bounds-out-0 : goal.bounds-out-0
bounds-out-0 c = search escapes

pub encode-used-requires : goal.encode-used-requires
encode-used-requires c = search escapes

pub returns-in_default : goal.returns-in_default
returns-in_default c = search escapes

pub returns-in-Some-letter_escape : goal.returns-in-Some-letter_escape
returns-in-Some-letter_escape c = search escapes

pub returns-in_err-point : goal.returns-in_err-point
returns-in_err-point c =
    let p = err_from_is_err_and c.from_residual.result c.from_residual.ensures.1 in
    rw (p.1, p.2) (search (escapes, c.in_err-point.was))

pub returns-then-ch-eq-U : goal.returns-then-ch-eq-U
returns-then-ch-eq-U c = search (escapes, c.in_ok-point.was)

pub returns : goal.returns
returns c = search escapes
