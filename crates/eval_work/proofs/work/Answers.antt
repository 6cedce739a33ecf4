use Rattle.eval_work.proofs.Working.{works, revise-asked, work-refuses, newest-asked, loop-less, loop-goes}
use borrow.Author.Rules.{rules}
use Rattle.eval_work.proofs.work.Goals as goal

pub loop-refusal-init : goal.loop-refusal-init
loop-refusal-init c = search works

pub turned-requires : goal.turned-requires
turned-requires c = search works

pub returns-then-n-eq0 : goal.returns-then-n-eq0
returns-then-n-eq0 c = search works

pub older-m-requires : goal.older-m-requires
older-m-requires c = search works

pub first_refusal-requires : goal.first_refusal-requires
first_refusal-requires c = revise-asked c.loop-refusal.invariant c.turned.ensures c.in-Err.is (search rules) c.older-m.ensures

pub shape_of-table-in-Err : goal.shape_of-table-in-Err
shape_of-table-in-Err c = let h = c.loop-refusal.invariant.same-table in search rules

pub shape_of-bytes-in-Err : goal.shape_of-bytes-in-Err
shape_of-bytes-in-Err c = let h = c.loop-refusal.invariant.same_bytes in search rules

pub shape_of-stack-in-Err : goal.shape_of-stack-in-Err
shape_of-stack-in-Err c = let h = c.loop-refusal.invariant.same-work in search rules

pub shape_of-room-in-Err : goal.shape_of-room-in-Err
shape_of-room-in-Err c = let h = c.loop-refusal.invariant.same-room in search rules

pub shape_of-trail-in-Err : goal.shape_of-trail-in-Err
shape_of-trail-in-Err c = let h = c.loop-refusal.invariant.same-trail in search rules

pub shape_of-text-in-Err : goal.shape_of-text-in-Err
shape_of-text-in-Err c = let h = c.loop-refusal.invariant.same_text in search rules

pub shape_of-list-in-Err : goal.shape_of-list-in-Err
shape_of-list-in-Err c = let h = c.loop-refusal.invariant.same-list in search rules

pub returns-in-Err : goal.returns-in-Err
returns-in-Err c = work-refuses c.loop-refusal.invariant c.turned.ensures c.in-Err.is (search rules) c.older-m.ensures c.first_refusal.ensures

pub newest_item-item-requires : goal.newest_item-item-requires
newest_item-item-requires c = search works

pub newest_outcome-o-requires : goal.newest_outcome-o-requires
newest_outcome-o-requires c = newest-asked c.loop-refusal.invariant c.turned.ensures c.in-Ok.is (search rules) (search rules) c.newest_item-item.ensures

pub loop-refusal-smaller : goal.loop-refusal-smaller
loop-refusal-smaller c = loop-less c.loop-refusal.invariant c.turned.ensures c.in-Ok.is (search rules)

pub loop-refusal-preserved : goal.loop-refusal-preserved
loop-refusal-preserved c = loop-goes c.loop-refusal.invariant c.turned.ensures c.in-Ok.is (search rules) (search rules) c.newest_item-item.ensures c.newest_outcome-o.ensures (search rules) (search rules) (search rules) (search rules) (search rules)
