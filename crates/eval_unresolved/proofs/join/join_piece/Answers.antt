use Rattle.eval_unresolved.proofs.join.Returns.{lending, piece-one, piece-merged, piece-text, piece-undefined, piece-needs, piece-missing}
use Rattle.eval_unresolved.proofs.join.join_piece.Goals as goal

pub overflow_add-end : goal.overflow_add-end
overflow_add-end c = search lending

pub slice_bounds-join_text-end : goal.slice_bounds-join_text-end
slice_bounds-join_text-end c = search lending

pub join_text-requires : goal.join_text-requires
join_text-requires c = search lending

pub join_nothing-requires : goal.join_nothing-requires
join_nothing-requires c = search lending

pub join_one-requires : goal.join_one-requires
join_one-requires c = search lending

pub join_objects-requires : goal.join_objects-requires
join_objects-requires c = search lending

pub returns-in-Text : goal.returns-in-Text
returns-in-Text c = search (piece-text c.args.env.now)

pub returns-in-Undefined : goal.returns-in-Undefined
returns-in-Undefined c = search (piece-undefined c.args.env.now)

pub returns-in-One : goal.returns-in-One
returns-in-One c = search (piece-one c.args.env.now)

pub returns-in-Merged : goal.returns-in-Merged
returns-in-Merged c = search (piece-merged c.args.env.now)

pub returns-in-Needs : goal.returns-in-Needs
returns-in-Needs c = search (piece-needs c.args.env.now)

pub returns-in-Missing : goal.returns-in-Missing
returns-in-Missing c = search (piece-missing c.args.env.now)
