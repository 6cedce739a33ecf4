use Rattle.std.proofs.Common.{rules, arith}
use Rattle.text_chars.proofs.Utf8.{block-ascii}
use Rattle.text_chars.proofs.ascii_block.Goals as goal

pub returns : goal.returns
returns c = block-ascii c.block_passes.ensures (λ b e. search (rules, arith))
