use Rattle.std.proofs.Common.{rules, arith}
use Rattle.text_scan.proofs.Lines.{block-line}
use Rattle.text_scan.proofs.line_block.Goals as goal

pub returns : goal.returns
returns c = block-line c.block_passes.ensures (λ b e. search (rules, arith))
