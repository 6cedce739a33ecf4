use Rattle.read_grammar.proofs.Places.{behind-end}
use Rattle.read_grammar.proofs.behind.Goals as goal

pub returns : goal.returns
returns c = search behind-end
