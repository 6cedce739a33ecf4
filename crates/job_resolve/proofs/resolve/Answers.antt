use Rattle.job_resolve_laws.specs.Ends.{parts, part-kept, resolution-asked, resolve-refused, resolve-done}
use borrow.Author.Rules.{rules}
use Rattle.job_resolve.proofs.resolve.Goals as goal

pub slice_bounds-resolution-end-in-Ok-2 : goal.slice_bounds-resolution-end-in-Ok-2
slice_bounds-resolution-end-in-Ok-2 c = search parts

pub slice_bounds-resolution-end-in-Ok-3 : goal.slice_bounds-resolution-end-in-Ok-3
slice_bounds-resolution-end-in-Ok-3 c = search parts

pub slice_bounds-resolution-end-in-Ok-4 : goal.slice_bounds-resolution-end-in-Ok-4
slice_bounds-resolution-end-in-Ok-4 c = search parts

pub slice_bounds-resolution-end-in-Ok-5 : goal.slice_bounds-resolution-end-in-Ok-5
slice_bounds-resolution-end-in-Ok-5 c = search parts

pub slice_bounds-resolution-end-in-Ok-6 : goal.slice_bounds-resolution-end-in-Ok-6
slice_bounds-resolution-end-in-Ok-6 c = search parts

pub slice_bounds-resolution-end-in-Ok-7 : goal.slice_bounds-resolution-end-in-Ok-7
slice_bounds-resolution-end-in-Ok-7 c = search parts

pub resolution-r-requires : goal.resolution-r-requires
resolution-r-requires c = resolution-asked _ _ _ _ _ c.budget_fits-fits.ensures c.read_task.ensures c.in-Ok.is (search rules) c.room_of-s.ensures c.room_of-x.ensures

pub returns-in-Err : goal.returns-in-Err
returns-in-Err c = search resolve-refused

pub shape_of-trail-in-Ok : goal.shape_of-trail-in-Ok
shape_of-trail-in-Ok c = search (part-kept, c.finish-in-Ok.auto.trail, c.resolution-r.auto.trail)

pub shape_of-table-in-Ok : goal.shape_of-table-in-Ok
shape_of-table-in-Ok c = search (part-kept, c.finish-in-Ok.auto.table, c.resolution-r.auto.table)

pub shape_of-text-in-Ok : goal.shape_of-text-in-Ok
shape_of-text-in-Ok c = search (part-kept, c.finish-in-Ok.auto.text, c.resolution-r.auto.text)

pub returns-in-Ok : goal.returns-in-Ok
returns-in-Ok c = resolve-done _ _ _ _ _ _ c.budget_fits-fits.ensures c.read_task.ensures c.in-Ok.is (search rules) c.room_of-s.ensures c.room_of-x.ensures c.room_of-t.ensures c.resolution-r.ensures c.resolution-r.auto.trail c.resolution-r.auto.table c.resolution-r.auto.text c.finish-in-Ok.ensures
