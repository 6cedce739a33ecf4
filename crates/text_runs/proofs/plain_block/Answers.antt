use Rattle.std.proofs.Common.{rules, arith}
use Rattle.text_runs.proofs.Runs.{block-plain}
use Rattle.text_runs.proofs.plain_block.Goals as goal

pub returns : goal.returns
returns c = block-plain c.block_passes.ensures (λ b e. search (rules, arith))
