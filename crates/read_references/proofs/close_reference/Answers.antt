use Rattle.std.proofs.lemmas.Result.{err_from_is_err_and}
use Rattle.read_references.proofs.References.{braces}
use Rattle.read_references.proofs.close_reference.Goals as goal

pub returns-in_err-judge_path : goal.returns-in_err-judge_path
returns-in_err-judge_path c =
    let p = err_from_is_err_and c.from_residual.result c.from_residual.ensures.1 in
    rw (p.1, p.2) (search (braces, c.in_err-judge_path.was))

pub returns-then-here-eq-CLOSE_BRACE : goal.returns-then-here-eq-CLOSE_BRACE
returns-then-here-eq-CLOSE_BRACE c = search (braces, c.in_ok-judge_path.was)

pub returns : goal.returns
returns c = search braces
