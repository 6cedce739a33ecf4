use Rattle.job_check.proofs.trails.Trails.{TrailInv}
use Prim.Native.Nat.{◌-◌}
use lib.ListN.{length}
use Rattle.job_check.proofs.trails.check_trail.Given as goal

abbrev pub invariant-loop-at : goal.invariant-loop-at
invariant-loop-at l = TrailInv l.environment l.count l.trail l.text l.initial.table l.initial.bytes l.initial.work l.initial.room l.table l.bytes l.work l.room l.at

abbrev pub decreases-loop-at : goal.decreases-loop-at
decreases-loop-at l = length l.trail - l.at.used.0
