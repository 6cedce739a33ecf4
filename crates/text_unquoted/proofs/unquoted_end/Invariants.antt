use Rattle.text_scan.specs.Walks.{Going}
use Rattle.rules.specs.Pieces.{unquoted_end}
use lib.ListN.{length}
use Prim.Native.Nat.{◌-◌}
use Rattle.text_unquoted.proofs.unquoted_end.Given as goal

abbrev pub invariant-loop-run : goal.invariant-loop-run
invariant-loop-run l = Going unquoted_end l.s l.initial.p.at.0 l.p

abbrev pub decreases-loop-run : goal.decreases-loop-run
decreases-loop-run l = length l.s - l.p.at.0
