use Prim.Native.Nat.{◌-◌}
use lib.ListN.{length}
use Rattle.text_strings.proofs.Runs.{AfterLoop}
use Rattle.text_strings.proofs.triple.after_quotes.Given as goal

abbrev pub invariant-loop-next : goal.invariant-loop-next
invariant-loop-next l = AfterLoop l.s l.initial.at.at.0 l.at.at.0

abbrev pub decreases-loop-next : goal.decreases-loop-next
decreases-loop-next l = length l.s - l.at.at.0
