use Rattle.eval_store.proofs.compare.Compared.{value-laws}
use Rattle.eval_store.proofs.compare.same_value.Goals as goal

pub returns-then-same_records : goal.returns-then-same_records
returns-then-same_records c = search value-laws

pub returns : goal.returns
returns c = search value-laws
