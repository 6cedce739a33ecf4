use Rattle.sheet_paths.proofs.Steps.{nexts}
use Rattle.sheet_paths.proofs.next_value.Goals as goal

pub returns-then-b-a : goal.returns-then-b-a
returns-then-b-a c = search nexts

pub returns-then-names-b : goal.returns-then-names-b
returns-then-names-b c = search nexts

pub returns : goal.returns
returns c = search nexts
