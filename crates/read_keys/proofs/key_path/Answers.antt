use Rattle.std.proofs.lemmas.Result.{err_from_is_err_and}
use Rattle.read_keys.proofs.Keys.{key-paths, asks-judged}
use Rattle.read_keys.proofs.key_path.Goals as goal

pub returns-in_err-path : goal.returns-in_err-path
returns-in_err-path c =
    let p = err_from_is_err_and c.from_residual.result c.from_residual.ensures.1 in
    rw (p.1, p.2) (search (key-paths, c.in_err-path.was))

pub returns-then-path-eq0 : goal.returns-then-path-eq0
returns-then-path-eq0 c = search (key-paths, c.in_ok-path.was)

pub judge_key-requires : goal.judge_key-requires
judge_key-requires c = search (asks-judged, c.in_ok-path.was)

pub returns : goal.returns
returns c = search (key-paths, c.in_ok-path.was)
