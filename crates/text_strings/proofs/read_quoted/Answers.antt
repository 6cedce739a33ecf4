use Rattle.std.proofs.lemmas.Result.{err_from_is_err_and}
use Rattle.text_strings.proofs.Whole.{wholes}
use Rattle.text_strings.proofs.read_quoted.Goals as goal

pub raw-requires : goal.raw-requires
raw-requires c = search wholes

pub returns-in-Some : goal.returns-in-Some
returns-in-Some c = search wholes

pub body-requires : goal.body-requires
body-requires c = search (wholes, c.in_ok-first.was)

pub returns-in_err-first : goal.returns-in_err-first
returns-in_err-first c =
    let p = err_from_is_err_and c.from_residual.result c.from_residual.ensures.1 in
    rw (p.1, p.2) (search (wholes, c.in_err-first.was))

pub returns : goal.returns
returns c = search (wholes, c.in_ok-first.was)
