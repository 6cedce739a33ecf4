use Rattle.text_scan.specs.Walks.{Going}
use Rattle.rules.specs.Numbers.{after_digits}
use lib.ListN.{length}
use Prim.Native.Nat.{◌-◌}
use Rattle.text_numbers.proofs.after_digits.Given as goal

abbrev pub invariant-loop-p : goal.invariant-loop-p
invariant-loop-p l = Going after_digits l.s l.initial.p.at.0 l.p

abbrev pub decreases-loop-p : goal.decreases-loop-p
decreases-loop-p l = length l.s - l.p.at.0
