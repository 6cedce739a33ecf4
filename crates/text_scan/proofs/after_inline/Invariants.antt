use Rattle.text_scan.specs.Walks.{Going}
use Rattle.rules.specs.Characters.{after_inline}
use lib.ListN.{length}
use Prim.Native.Nat.{◌-◌}
use Rattle.text_scan.proofs.after_inline.Given as goal

abbrev pub invariant-loop-p : goal.invariant-loop-p
invariant-loop-p l = Going after_inline l.s l.initial.p.at.0 l.p

abbrev pub decreases-loop-p : goal.decreases-loop-p
decreases-loop-p l = length l.s - l.p.at.0
