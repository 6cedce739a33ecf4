use Rattle.read_scalars.proofs.Scalars.{written_is}
use Rattle.read_scalars.proofs.copy_written.Goals as goal

pub returns : goal.returns
returns c = search written_is
