use Prim.Native.Nat.{◌-◌}
use Rattle.sheet_forms.specs.declared.Form.{Form}
use Rattle.sheet_layout.specs.Model.{eq_at}
use Rattle.sheet_layout.proofs.Loops.{Going}
use Rattle.sheet_layout.proofs.same_records.Given as goal

abbrev pub invariant-loop-len : goal.invariant-loop-len
invariant-loop-len l = Going eq_at Form.Public l.part l.room l.len.0 l.initial.text l.part l.p l.text

abbrev pub decreases-loop-len : goal.decreases-loop-len
decreases-loop-len l = l.len.0 - l.p
