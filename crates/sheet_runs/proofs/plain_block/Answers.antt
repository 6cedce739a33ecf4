use Rattle.std.proofs.Common.{rules, arith}
use Rattle.sheet_runs.proofs.Runs.{block-records}
use Rattle.sheet_runs.proofs.plain_block.Goals as goal

pub returns : goal.returns
returns c = block-records c.requires c.block_passes.ensures (λ b e. search (rules, arith))
