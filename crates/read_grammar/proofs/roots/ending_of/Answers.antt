use Rattle.read_grammar.proofs.roots.Endings.{endings}
use Rattle.read_grammar.proofs.roots.ending_of.Goals as goal

pub returns-then-end-s : goal.returns-then-end-s
returns-then-end-s c = search endings

pub returns : goal.returns
returns c = search endings
