use Rattle.eval_copy.proofs.records.Copies.{key_laws}
use Rattle.eval_copy.proofs.records.copy_key.Goals as goal

pub returns-then-keyed : goal.returns-then-keyed
returns-then-keyed c = search key_laws

pub returns : goal.returns
returns c = search key_laws
