use Rattle.std.proofs.lemmas.Result.{err_from_is_err_and}
use Rattle.read_keys.proofs.Keys.{judgeds}
use Rattle.read_keys.proofs.judge_key.Goals as goal

pub returns-in_err-judge_elements : goal.returns-in_err-judge_elements
returns-in_err-judge_elements c =
    let p = err_from_is_err_and c.from_residual.result c.from_residual.ensures.1 in
    rw (p.1, p.2) (search (judgeds, c.in_err-judge_elements.was))

pub returns-in_err-next : goal.returns-in_err-next
returns-in_err-next c =
    let p = err_from_is_err_and c.from_residual-in_err-next.result c.from_residual-in_err-next.ensures.1 in
    rw (p.1, p.2) (search (judgeds, c.in_ok-judge_elements.was, c.in_err-next.was))

pub returns : goal.returns
returns c = search (judgeds, c.in_ok-judge_elements.was, c.in_ok-next.was)
