use Prim.Native.Nat.{◌-◌}
use lib.ListN.{length}
use Rattle.text_paths.proofs.Whole.{Joining}
use Rattle.text_paths.proofs.elements.Given as goal

abbrev pub invariant-loop-marks : goal.invariant-loop-marks
invariant-loop-marks l = Joining l.key l.s l.initial.at.at.0 l.initial.out l.initial.marks l.p l.from.0 l.at.at.0 l.any l.out l.marks

abbrev pub decreases-loop-marks : goal.decreases-loop-marks
decreases-loop-marks l = length l.s - l.at.at.0
