use Prim.Native.Nat.{◌+◌, ◌*◌}
use Rattle.eval_copy.proofs.Copying.{Copying}
use Rattle.eval_copy.proofs.+copy_held_copy_member_copy_members_copy_value.Given as goal

abbrev pub decreases-copy_held : goal.decreases-copy_held
decreases-copy_held l = 4 * l.levels + 0

abbrev pub decreases-copy_member : goal.decreases-copy_member
decreases-copy_member l = 4 * l.levels + 2

abbrev pub decreases-copy_members : goal.decreases-copy_members
decreases-copy_members l = 4 * l.levels + 3

abbrev pub decreases-copy_value : goal.decreases-copy_value
decreases-copy_value l = 4 * l.levels + 1

abbrev pub invariant-copy_members-loop-left : goal.invariant-copy_members-loop-left
invariant-copy_members-loop-left l = Copying l.levels l.table l.bytes l.texts.0 l.keyed l.initial.left l.initial.d l.initial.room l.d l.room l.left

abbrev pub decreases-copy_members-loop-left : goal.decreases-copy_members-loop-left
decreases-copy_members-loop-left l = l.left
