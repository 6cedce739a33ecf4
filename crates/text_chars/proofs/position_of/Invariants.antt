use Rattle.text_chars.proofs.Positions.{Walking}
use Prim.Native.Nat.{◌-◌}
use Rattle.text_chars.proofs.position_of.Given as goal

abbrev pub invariant-loop-here : goal.invariant-loop-here
invariant-loop-here l = Walking l.s l.end l.here

abbrev pub decreases-loop-here : goal.decreases-loop-here
decreases-loop-here l = l.end - l.here.cursor.at.0
