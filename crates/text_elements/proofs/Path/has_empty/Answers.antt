use Rattle.text_elements.proofs.Elements.{empties}
use Rattle.text_elements.proofs.Path.has_empty.Goals as goal

pub returns-then-self : goal.returns-then-self
returns-then-self c = search empties

pub returns-then-self-2 : goal.returns-then-self-2
returns-then-self-2 c = search empties

pub returns : goal.returns
returns c = search empties
