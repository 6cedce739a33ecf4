use Rattle.eval_copy.proofs.Copying.{held-laws}
use Rattle.eval_copy.proofs.Copying.{member_is}
use Rattle.eval_copy.proofs.Copying.{value-laws}
use Rattle.eval_copy.proofs.Copying.{members-laws}
use Rattle.eval_copy.proofs.+copy_held_copy_member_copy_members_copy_value.Goals as goal

pub copy_held-returns-then-levels-eq0 : goal.copy_held-returns-then-levels-eq0
copy_held-returns-then-levels-eq0 t c = search held-laws

pub copy_held-returns : goal.copy_held-returns
copy_held-returns t c = search held-laws

pub copy_member-returns : goal.copy_member-returns
copy_member-returns t c = search member_is

pub copy_members-loop-left-init : goal.copy_members-loop-left-init
copy_members-loop-left-init t c = search members-laws

pub copy_members-returns-then-bytes-d : goal.copy_members-returns-then-bytes-d
copy_members-returns-then-bytes-d t c = search members-laws

pub copy_members-overflow_sub-left-in-loop-left-2 : goal.copy_members-overflow_sub-left-in-loop-left-2
copy_members-overflow_sub-left-in-loop-left-2 t c = search members-laws

pub copy_members-loop-left-smaller : goal.copy_members-loop-left-smaller
copy_members-loop-left-smaller t c = search members-laws

pub copy_members-loop-left-preserved : goal.copy_members-loop-left-preserved
copy_members-loop-left-preserved t c = search members-laws

pub copy_members-returns : goal.copy_members-returns
copy_members-returns t c = search members-laws

pub copy_value-returns-in-Plain : goal.copy_value-returns-in-Plain
copy_value-returns-in-Plain t c = search value-laws

pub copy_value-returns-in-Key : goal.copy_value-returns-in-Key
copy_value-returns-in-Key t c = search value-laws

pub copy_value-returns-in-Word : goal.copy_value-returns-in-Word
copy_value-returns-in-Word t c = search value-laws

pub copy_value-returns-in-Head : goal.copy_value-returns-in-Head
copy_value-returns-in-Head t c = search value-laws
