use Rattle.read_cycle.proofs.Containers.{Inv}
use Rattle.read_cycle.proofs.Objects.{object_like}
use Prim.Native.Nat.{◌-◌}
use lib.ListN.{length}
use Rattle.read_cycle.proofs.Arrays.{array_like}
use Rattle.read_cycle.proofs.ValueLaws.{Inv as ValueInv}
use Rattle.read_cycle.specs.Measures.{need}
use Rattle.read_cycle.proofs.+array_element_field_field_value_object_piece_step_value.Given as goal

abbrev pub decreases-array : goal.decreases-array
decreases-array l = need 5 l.s.now l.c.at.0

abbrev pub decreases-element : goal.decreases-element
decreases-element l = need 4 l.s.now l.c.at.0

abbrev pub decreases-field : goal.decreases-field
decreases-field l = need 4 l.s.now l.c.at.0

abbrev pub decreases-field_value : goal.decreases-field_value
decreases-field_value l = need 4 l.s.now l.c.at.0

abbrev pub decreases-object : goal.decreases-object
decreases-object l = need 5 l.s.now l.c.at.0

abbrev pub decreases-piece : goal.decreases-piece
decreases-piece l = need 1 l.s.now l.c.at.0

abbrev pub decreases-step : goal.decreases-step
decreases-step l = need 2 l.s.now l.c.at.0

abbrev pub decreases-value : goal.decreases-value
decreases-value l = need 3 l.s.now l.c.at.0

abbrev pub invariant-array-loop-next : goal.invariant-array-loop-next
invariant-array-loop-next l = Inv array_like l.s l.start l.left l.items l.initial.table l.initial.text l.at.at.0 l.n l.table l.text

abbrev pub decreases-array-loop-next : goal.decreases-array-loop-next
decreases-array-loop-next l = length l.s - l.at.at.0

abbrev pub invariant-object-loop-next : goal.invariant-object-loop-next
invariant-object-loop-next l = Inv (object_like l.closing) l.s l.start l.left l.items l.initial.table l.initial.text l.at.at.0 l.n l.table l.text

abbrev pub decreases-object-loop-next : goal.decreases-object-loop-next
decreases-object-loop-next l = length l.s - l.at.at.0

abbrev pub invariant-value-loop-more : goal.invariant-value-loop-more
invariant-value-loop-more l = ValueInv l.s l.initial.at.at.0 l.left l.items l.initial.table l.initial.text l.at.at.0 l.from.0 l.n l.used l.run l.table l.text

abbrev pub decreases-value-loop-more : goal.decreases-value-loop-more
decreases-value-loop-more l = length l.s - l.at.at.0
