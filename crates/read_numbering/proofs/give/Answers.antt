use Rattle.read_numbering.proofs.Passes.{gives}
use Rattle.read_numbering.proofs.give.Goals as goal

pub returns : goal.returns
returns c = search gives
