use Rattle.std.proofs.lemmas.Result.{err_from_is_err_and}
use Rattle.text_strings.proofs.Bodies.{bodies}
use Rattle.text_strings.proofs.body.Goals as goal

pub loop-next-init : goal.loop-next-init
loop-next-init c = search bodies

pub slice_bounds-copy-count : goal.slice_bounds-copy-count
slice_bounds-copy-count c = search bodies

pub slice_bounds-copy-start : goal.slice_bounds-copy-start
slice_bounds-copy-start c = search bodies

pub slice_bounds-copy-end : goal.slice_bounds-copy-end
slice_bounds-copy-end c = search bodies

pub copy-n-requires : goal.copy-n-requires
copy-n-requires c = search bodies

pub overflow_add-used : goal.overflow_add-used
overflow_add-used c = search bodies

pub next_piece-requires : goal.next_piece-requires
next_piece-requires c = search bodies

pub returns-in_err-next : goal.returns-in_err-next
returns-in_err-next c =
    let p = err_from_is_err_and c.from_residual.result c.from_residual.ensures.1 in
    rw (p.1, p.2) (search (bodies, c.in_err-next.was))

pub returns-in-Close : goal.returns-in-Close
returns-in-Close c = search (bodies, c.in_ok-next.was)

pub loop-next-smaller : goal.loop-next-smaller
loop-next-smaller c = search (bodies, c.in_ok-next.was)

pub loop-next-preserved : goal.loop-next-preserved
loop-next-preserved c = search (bodies, c.in_ok-next.was)
