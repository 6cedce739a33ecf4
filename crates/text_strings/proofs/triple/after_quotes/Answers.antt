use Rattle.text_strings.proofs.Runs.{afters}
use Rattle.text_strings.proofs.triple.after_quotes.Goals as goal

pub loop-next-init : goal.loop-next-init
loop-next-init c = search afters

pub returns : goal.returns
returns c = search afters

pub loop-next-smaller : goal.loop-next-smaller
loop-next-smaller c = search afters

pub loop-next-preserved : goal.loop-next-preserved
loop-next-preserved c = search afters
