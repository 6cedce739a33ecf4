use Prim.Native.Nat.{◌-◌}
use lib.ListN.{length}
use Rattle.text_strings.proofs.Runs.{RunLoop}
use Rattle.text_strings.proofs.triple.find_run.Given as goal

abbrev pub invariant-loop-next : goal.invariant-loop-next
invariant-loop-next l = RunLoop l.s l.initial.at.at.0 l.at.at.0

abbrev pub decreases-loop-next : goal.decreases-loop-next
decreases-loop-next l = length l.s - l.at.at.0
