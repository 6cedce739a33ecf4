use Rattle.std.proofs.lemmas.Result.{err_from_is_err_and}
use Rattle.text_paths.proofs.Texts.{path-texts, asks-elements}
use Rattle.text_paths.proofs.path_text.Goals as goal

pub returns-in_err-whole : goal.returns-in_err-whole
returns-in_err-whole c =
    let p = err_from_is_err_and c.from_residual.result c.from_residual.ensures.1 in
    rw (p.1, p.2) (search (path-texts, asks-elements, c.in_err-whole.was))

pub returns : goal.returns
returns c = search (path-texts, asks-elements, c.in_ok-whole.was)
