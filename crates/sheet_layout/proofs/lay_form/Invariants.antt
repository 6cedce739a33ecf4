use Prim.Native.Nat.{◌-◌}
use lib.Seq.{sets}
use Rattle.sheet_layout.proofs.Loops.{Going}
use Rattle.sheet_layout.proofs.lay_form.Given as goal

abbrev pub invariant-loop-len : goal.invariant-loop-len
invariant-loop-len l = Going sets l.form l.initial.part l.room l.len.0 l.initial.text l.part l.p l.text

abbrev pub decreases-loop-len : goal.decreases-loop-len
decreases-loop-len l = l.len.0 - l.p
