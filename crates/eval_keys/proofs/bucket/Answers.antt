use Rattle.eval_keys.proofs.Readings.{hashes}
use Rattle.eval_keys.proofs.bucket.Goals as goal

pub loop-i-init : goal.loop-i-init
loop-i-init c = search hashes

pub loop-i-preserved : goal.loop-i-preserved
loop-i-preserved c = search hashes

pub returns : goal.returns
returns c = search hashes
