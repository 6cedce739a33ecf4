use Prim.Native.Nat.{◌-◌}
use Rattle.sheet_forms.proofs.Forms.{Counting}
use Rattle.sheet_forms.proofs.count_up_to.Given as goal

abbrev pub invariant-loop-p : goal.invariant-loop-p
invariant-loop-p l = Counting l.s l.initial.p l.e l.p l.n

abbrev pub decreases-loop-p : goal.decreases-loop-p
decreases-loop-p l = l.e - l.p
