use Rattle.std.proofs.lemmas.Result.{err_from_is_err_and}
use Rattle.eval_settle_laws.specs.Settling.{one_laws}
use borrow.Author.Rules.{rules}
use Rattle.eval_settle_laws.specs.Settling.{all_laws, all-refused, all-less, all-on}
use mathlib.Core.Path.{refl}
use Rattle.eval_settle.proofs.+settle_all_settle_one.Goals as goal

pub settle_all-loop-p-init : goal.settle_all-loop-p-init
settle_all-loop-p-init t c = (search all_laws, refl)

pub settle_all-need_at-met-requires : goal.settle_all-need_at-met-requires
settle_all-need_at-met-requires t c = search all_laws

pub settle_all-settle_one-requires : goal.settle_all-settle_one-requires
settle_all-settle_one-requires t c = (search rules, (search all_laws, let h = c.loop-p.invariant.1 in search rules))

pub settle_all-shape_of-table-in_err-state : goal.settle_all-shape_of-table-in_err-state
settle_all-shape_of-table-in_err-state t c = let h = c.loop-p.invariant.0.same-table in search rules

pub settle_all-shape_of-bytes-in_err-state : goal.settle_all-shape_of-bytes-in_err-state
settle_all-shape_of-bytes-in_err-state t c = let h = c.loop-p.invariant.0.same_bytes in search rules

pub settle_all-shape_of-stack-in_err-state : goal.settle_all-shape_of-stack-in_err-state
settle_all-shape_of-stack-in_err-state t c = let h = c.loop-p.invariant.0.left.len in search rules

pub settle_all-shape_of-room-in_err-state : goal.settle_all-shape_of-room-in_err-state
settle_all-shape_of-room-in_err-state t c = let h = c.loop-p.invariant.0.same-room in search rules

pub settle_all-shape_of-trail-in_err-state : goal.settle_all-shape_of-trail-in_err-state
settle_all-shape_of-trail-in_err-state t c = let h = c.loop-p.invariant.0.same-trail in search rules

pub settle_all-shape_of-text-in_err-state : goal.settle_all-shape_of-text-in_err-state
settle_all-shape_of-text-in_err-state t c = let h = c.loop-p.invariant.0.same_text in search rules

pub settle_all-shape_of-list-in_err-state : goal.settle_all-shape_of-list-in_err-state
settle_all-shape_of-list-in_err-state t c = let h = c.loop-p.invariant.1 in search rules

pub settle_all-returns-in_err-state : goal.settle_all-returns-in_err-state
settle_all-returns-in_err-state t c =
    let p = err_from_is_err_and c.from_residual.result c.from_residual.ensures.1 in
    rw (p.1, p.2) (all-refused c.loop-p.invariant.0 c.loop-p-test.true c.need_at-met.ensures c.settle_one.ensures c.in_err-state.was)

pub settle_all-loop-p-smaller : goal.settle_all-loop-p-smaller
settle_all-loop-p-smaller t c = all-less c.loop-p.invariant.0 c.loop-p-test.true c.need_at-met.ensures c.settle_one.ensures (search rules) c.requires.0

pub settle_all-loop-p-preserved : goal.settle_all-loop-p-preserved
settle_all-loop-p-preserved t c = (all-on c.loop-p.invariant.0 c.loop-p-test.true c.need_at-met.ensures c.settle_one.ensures (search rules) (search rules) (search rules) (search rules) (search rules) (search rules), let h = c.loop-p.invariant.1 in search rules)

pub settle_all-returns : goal.settle_all-returns
settle_all-returns t c = search all_laws

pub settle_one-work-requires : goal.settle_one-work-requires
settle_one-work-requires t c = (search one_laws, search rules)

pub settle_one-returns-then-levels-eq0 : goal.settle_one-returns-then-levels-eq0
settle_one-returns-then-levels-eq0 t c = search one_laws

pub settle_one-settle_all-requires : goal.settle_one-settle_all-requires
settle_one-settle_all-requires t c = (search rules, (search one_laws, search rules))

pub settle_one-returns-in-Nothing : goal.settle_one-returns-in-Nothing
settle_one-returns-in-Nothing t c = search one_laws

pub settle_one-returns-in-Answer : goal.settle_one-returns-in-Answer
settle_one-returns-in-Answer t c = search one_laws

pub settle_one-returns-else-levels-eq0 : goal.settle_one-returns-else-levels-eq0
settle_one-returns-else-levels-eq0 t c = let a = c.requires.0 in let f = c.settle_all.ensures in search one_laws
