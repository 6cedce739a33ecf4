use Rattle.std.proofs.lemmas.Result.{err_from_is_err_and}
use Rattle.read_documents.proofs.Outlines.{outlines}
use Rattle.read_documents.proofs.put_root.Goals as goal

pub ending_of-requires : goal.ending_of-requires
ending_of-requires c = search (outlines, c.in_ok-read.was)

pub overflow_sub-item : goal.overflow_sub-item
overflow_sub-item c = search (outlines, c.in_ok-read.was)

pub overflow_add-item : goal.overflow_add-item
overflow_add-item c = search (outlines, c.in_ok-read.was)

pub put_item-requires : goal.put_item-requires
put_item-requires c = search (outlines, c.in_ok-read.was)

pub returns-in_err-read : goal.returns-in_err-read
returns-in_err-read c = let p = err_from_is_err_and c.from_residual.result c.from_residual.ensures.1 in rw (p.1, p.2) (search (outlines, c.in_err-read.was))

pub returns-in_err-last : goal.returns-in_err-last
returns-in_err-last c = let p = err_from_is_err_and c.from_residual-in_err-last.result c.from_residual-in_err-last.ensures.1 in rw (p.1, p.2) (search (outlines, c.in_ok-read.was, c.in_err-last.was))

pub returns : goal.returns
returns c = search (outlines, c.in_ok-read.was, c.in_ok-last.was)
