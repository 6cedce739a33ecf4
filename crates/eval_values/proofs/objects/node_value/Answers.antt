use Rattle.eval_value_laws.specs.Holders.{node_laws}
use Rattle.eval_values.proofs.objects.node_value.Goals as goal

pub returns : goal.returns
returns c = search node_laws
