use Rattle.std.proofs.lemmas.Result.{err_from_is_err_and}
use Rattle.job_root.proofs.output.Ends.{hands, lay-asked, sum_fits}
use Rattle.job_root.proofs.output.hand_back.Goals as goal

pub lay_value-requires : goal.lay_value-requires
lay_value-requires c = search (lay-asked, c.in_ok-judge_table.was)

pub overflow_add-result : goal.overflow_add-result
overflow_add-result c = search (sum_fits, c.in_ok-judge_table.was)

pub returns-in_err-judge_table : goal.returns-in_err-judge_table
returns-in_err-judge_table c =
    let p = err_from_is_err_and c.from_residual.result c.from_residual.ensures.1 in rw (p.1, p.2) (search (hands, c.in_err-judge_table.was))

pub returns : goal.returns
returns c = search (hands, c.in_ok-judge_table.was)
