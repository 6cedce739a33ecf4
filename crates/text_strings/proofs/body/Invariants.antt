use Prim.Native.Nat.{◌-◌}
use lib.ListN.{length}
use Rattle.text_strings.proofs.Bodies.{BodyLoop}
use Rattle.text_strings.proofs.body.Given as goal

abbrev pub invariant-loop-next : goal.invariant-loop-next
invariant-loop-next l = BodyLoop l.s l.initial.at.at.0 l.initial.out l.at.at.0 l.out l.used

abbrev pub decreases-loop-next : goal.decreases-loop-next
decreases-loop-next l = length l.s - l.at.at.0
