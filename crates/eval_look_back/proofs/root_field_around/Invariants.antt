use Rattle.eval_look_back.proofs.RootAround.{RootInv}
use Prim.Native.Nat.{◌-◌}
use Rattle.doc_items.specs.Room.{number_bound}
use Rattle.eval_look_back.proofs.root_field_around.Given as goal

abbrev pub invariant-loop-at : goal.invariant-loop-at
invariant-loop-at l = RootInv l.table l.key l.item l.at

abbrev pub decreases-loop-at : goal.decreases-loop-at
decreases-loop-at l = number_bound - l.at
