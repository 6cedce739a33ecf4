use Rattle.eval_value_laws.specs.Listing.{Listing}
use Prim.Native.Nat.{◌-◌}
use Prim.Native.Nat.{◌+◌, ◌*◌}
use Rattle.eval_value_laws.specs.Fields.{Fielding}
use Rattle.eval_values.proofs.+elements_value_fields_value_taken_value.Given as goal

abbrev pub decreases-elements_value : goal.decreases-elements_value
decreases-elements_value l = 2 * l.levels + 1

abbrev pub decreases-fields_value : goal.decreases-fields_value
decreases-fields_value l = 2 * l.levels + 1

abbrev pub decreases-taken_value : goal.decreases-taken_value
decreases-taken_value l = 2 * l.levels

abbrev pub invariant-elements_value-loop-next : goal.invariant-elements_value-loop-next
invariant-elements_value-loop-next l = Listing l.table l.bytes l.src l.top l.item l.initial.e.out l.levels l.end l.initial.work l.initial.room l.at l.n l.e l.work l.room

abbrev pub decreases-elements_value-loop-next : goal.decreases-elements_value-loop-next
decreases-elements_value-loop-next l = l.end - l.at

abbrev pub invariant-fields_value-loop-p : goal.invariant-fields_value-loop-p
invariant-fields_value-loop-p l = Fielding l.table l.bytes l.src l.base l.top l.initial.e.out l.levels l.initial.work l.initial.room l.p l.n l.e l.work l.room

abbrev pub decreases-fields_value-loop-p : goal.decreases-fields_value-loop-p
decreases-fields_value-loop-p l = l.top - l.p
