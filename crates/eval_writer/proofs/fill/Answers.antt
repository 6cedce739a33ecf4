use Rattle.eval_writer.proofs.Records.{fill-laws}
use Rattle.eval_writer.proofs.fill.Goals as goal

pub loop-i-init : goal.loop-i-init
loop-i-init c = search fill-laws

pub loop-i-preserved : goal.loop-i-preserved
loop-i-preserved c = search fill-laws

pub returns : goal.returns
returns c = search fill-laws
