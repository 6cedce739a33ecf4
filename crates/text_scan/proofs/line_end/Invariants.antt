use Rattle.text_scan.specs.Walks.{Going}
use Rattle.rules.specs.Characters.{line_end}
use lib.ListN.{length}
use Prim.Native.Nat.{◌-◌}
use Rattle.text_scan.proofs.line_end.Given as goal

abbrev pub invariant-loop-here : goal.invariant-loop-here
invariant-loop-here l = Going line_end l.s l.initial.p.at.0 l.p

abbrev pub decreases-loop-here : goal.decreases-loop-here
decreases-loop-here l = length l.s - l.p.at.0
