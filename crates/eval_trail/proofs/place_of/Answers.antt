use Rattle.eval_trail.proofs.Beginning.{place_is}
use Rattle.eval_trail.proofs.place_of.Goals as goal

pub returns : goal.returns
returns c = search place_is
