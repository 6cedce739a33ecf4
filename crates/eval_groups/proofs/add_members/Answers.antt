use Rattle.eval_groups.proofs.Objects.{member-addings}
use borrow.Author.Rules.{rules}
use Rattle.eval_groups.proofs.add_members.Goals as goal

pub loop-next-init : goal.loop-next-init
loop-next-init c = search member-addings

pub returns-in-End : goal.returns-in-End
returns-in-End c = search member-addings

pub loop-next-smaller-in-Seam : goal.loop-next-smaller-in-Seam
loop-next-smaller-in-Seam c = search member-addings

pub loop-next-preserved-in-Seam : goal.loop-next-preserved-in-Seam
loop-next-preserved-in-Seam c = search member-addings

pub add-t-requires : goal.add-t-requires
add-t-requires c = (search rules, search rules, search member-addings)

pub loop-next-smaller : goal.loop-next-smaller
loop-next-smaller c = search member-addings

pub loop-next-preserved : goal.loop-next-preserved
loop-next-preserved c = search member-addings
