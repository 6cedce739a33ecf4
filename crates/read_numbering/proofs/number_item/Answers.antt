use Rattle.read_numbering.proofs.Passes.{steps}
use Rattle.read_numbering.proofs.number_item.Goals as goal

pub returns-then-kind-eq-UNRESOLVED : goal.returns-then-kind-eq-UNRESOLVED
returns-then-kind-eq-UNRESOLVED c = search steps

pub returns : goal.returns
returns c = search steps
