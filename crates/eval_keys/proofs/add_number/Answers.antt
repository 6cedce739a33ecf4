use Rattle.eval_keys.proofs.Numberings.{adds}
use Rattle.eval_keys.proofs.add_number.Goals as goal

pub bounds-table-i-2 : goal.bounds-table-i-2
bounds-table-i-2 c = search adds

pub bounds-table-b : goal.bounds-table-b
bounds-table-b c = search adds

pub returns : goal.returns
returns c = search adds
