use Rattle.std.proofs.lemmas.Result.{err_from_is_err_and}
use Rattle.job_look_up.proofs.Answers.{names, few-elements}
use borrow.Author.Rules.{rules}
use Rattle.job_look_up.proofs.look_up_path.Goals as goal

pub part_named-requires : goal.part_named-requires
part_named-requires c = (search rules, search rules, search rules, search (few-elements, c.in_ok-count.was))

pub returns-in_err-count : goal.returns-in_err-count
returns-in_err-count c =
    let p = err_from_is_err_and c.from_residual.result c.from_residual.ensures.1 in
    rw (p.1, p.2) (search (names, c.in_err-count.was))

pub returns : goal.returns
returns c = search (names, c.in_ok-count.was)
