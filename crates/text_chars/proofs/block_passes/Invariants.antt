use Rattle.text_chars.proofs.Blocks.{Passing}
use Rattle.text_chars.proofs.block_passes.Given as goal

abbrev pub invariant-loop-i : goal.invariant-loop-i
invariant-loop-i g l = Passing (goal.F-post g l.test) l.s l.at l.i l.passes
