use Rattle.job_root.proofs.Values.{root_laws}
use Rattle.job_root.proofs.root_value.Goals as goal

pub returns : goal.returns
returns c = search root_laws
