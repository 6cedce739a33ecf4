use Rattle.eval_substitutions.proofs.keys.Elements.{element-found}
use Rattle.eval_substitutions.proofs.keys.path_key.Goals as goal

pub returns : goal.returns
returns c = search element-found
