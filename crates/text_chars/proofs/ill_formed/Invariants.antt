use Rattle.text_chars.proofs.Utf8.{Formed}
use Prim.Native.Nat.{◌-◌}
use Rattle.text_chars.proofs.ill_formed.Given as goal

abbrev pub invariant-loop-at : goal.invariant-loop-at
invariant-loop-at l = Formed l.s l.at

abbrev pub decreases-loop-at : goal.decreases-loop-at
decreases-loop-at l = 32772 - l.at
