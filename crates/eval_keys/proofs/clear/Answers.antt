use Rattle.eval_keys.proofs.Numberings.{clear-is}
use Rattle.eval_keys.proofs.clear.Goals as goal

pub returns : goal.returns
returns c = let z = c.fill.ensures.after (λ y e. e) in search clear-is
