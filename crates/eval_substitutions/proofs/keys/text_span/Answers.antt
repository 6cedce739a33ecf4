use Rattle.eval_substitutions.proofs.keys.Elements.{spans}
use Rattle.eval_substitutions.proofs.keys.text_span.Goals as goal

pub returns-then-to-from : goal.returns-then-to-from
returns-then-to-from c = search spans

pub returns-then-n-lt-LENGTHS : goal.returns-then-n-lt-LENGTHS
returns-then-n-lt-LENGTHS c = search spans

pub returns-else-n-lt-LENGTHS : goal.returns-else-n-lt-LENGTHS
returns-else-n-lt-LENGTHS c = search spans
