use Rattle.std.proofs.lemmas.Result.{err_from_is_err_and}
use Rattle.text_paths.proofs.Texts.{endings}
use Rattle.text_paths.proofs.judge_path_text.Goals as goal

pub returns-then-next-s : goal.returns-then-next-s
returns-then-next-s c = search endings

pub returns-in_err-judge_path : goal.returns-in_err-judge_path
returns-in_err-judge_path c =
    let p = err_from_is_err_and c.from_residual.result c.from_residual.ensures.1 in
    rw (p.1, p.2) (search (endings, c.in_err-judge_path.was))

pub returns : goal.returns
returns c = search (endings, c.in_ok-judge_path.was)
