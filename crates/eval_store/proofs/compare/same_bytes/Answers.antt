use Rattle.eval_store.proofs.compare.Compared.{bytes_laws}
use Rattle.eval_store.proofs.compare.same_bytes.Goals as goal

pub loop-i-init : goal.loop-i-init
loop-i-init c = search bytes_laws

pub returns-then-s-to : goal.returns-then-s-to
returns-then-s-to c = search bytes_laws

pub loop-i-preserved : goal.loop-i-preserved
loop-i-preserved c = search bytes_laws

pub returns : goal.returns
returns c = search bytes_laws
