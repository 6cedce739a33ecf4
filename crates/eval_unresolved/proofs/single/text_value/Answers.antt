use Rattle.eval_unresolved.proofs.single.Returns.{text-laws}
use Rattle.eval_unresolved.proofs.single.text_value.Goals as goal

pub returns : goal.returns
returns c = search text-laws
