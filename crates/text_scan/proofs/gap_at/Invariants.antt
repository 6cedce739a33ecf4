use Rattle.text_scan.proofs.Gaps.{Widening}
use lib.ListN.{length}
use Prim.Native.Nat.{◌-◌}
use Rattle.text_scan.proofs.gap_at.Given as goal

abbrev pub invariant-loop-more : goal.invariant-loop-more
invariant-loop-more l = Widening l.s l.initial.g.next.at.0 l.g

abbrev pub decreases-loop-more : goal.decreases-loop-more
decreases-loop-more l = length l.s - l.g.next.at.0
