use Rattle.std.proofs.lemmas.Result.{err_from_is_err_and}
use Rattle.job_resolve_laws.specs.Settled.{settle-asked, hand-asked, resolution-refused, resolution-done}
use borrow.Author.Rules.{rules}
use Rattle.job_resolve.proofs.resolution.Goals as goal

pub settle_root-requires : goal.settle_root-requires
settle_root-requires c = (search settle-asked, search rules)

pub hand_root-requires : goal.hand_root-requires
hand_root-requires c = hand-asked c.requires c.settle_root.ensures (search rules) c.in_ok-at.was _ _ (search rules) (search rules) (search rules)

pub returns-in_err-at : goal.returns-in_err-at
returns-in_err-at c =
    let p = err_from_is_err_and c.from_residual.result c.from_residual.ensures.1 in
    rw (p.1, p.2) (resolution-refused c.requires c.settle_root.ensures (search rules) c.in_err-at.was)

pub returns : goal.returns
returns c = resolution-done c.requires c.settle_root.ensures (search rules) c.in_ok-at.was c.hand_root.ensures
