use Prim.Native.Nat.{◌-◌}
use lib.ListN.{length}
use Rattle.text_chars.specs.Cursor.{cur}
use Rattle.text_runs.specs.Clauses.{RunIs}
use Rattle.text_runs.proofs.blocks_end.Given as goal

abbrev pub invariant-loop-p : goal.invariant-loop-p
invariant-loop-p l = RunIs l.least l.other l.s l.initial.p (cur l.p)

abbrev pub decreases-loop-p : goal.decreases-loop-p
decreases-loop-p l = length l.s - l.p
