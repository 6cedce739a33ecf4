use Rattle.eval_concat_arrays.proofs.elements.Returns.{finished-laws}
use Rattle.eval_concat_arrays.proofs.elements.finished_elements.Goals as goal

pub returns-then-at-gt-ROOM : goal.returns-then-at-gt-ROOM
returns-then-at-gt-ROOM c = search finished-laws

pub returns : goal.returns
returns c = search finished-laws
