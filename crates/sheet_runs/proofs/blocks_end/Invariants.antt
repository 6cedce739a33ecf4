use Prim.Native.Nat.{◌-◌}
use Rattle.sheet_runs.specs.Clauses.{RunIs}
use Rattle.sheet_runs.proofs.blocks_end.Given as goal

abbrev pub invariant-loop-p : goal.invariant-loop-p
invariant-loop-p l = RunIs l.s l.initial.p l.end l.p

abbrev pub decreases-loop-p : goal.decreases-loop-p
decreases-loop-p l = l.end - l.p
