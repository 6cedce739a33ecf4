use Rattle.read_grammar.proofs.roots.Openings.{openings}
use Rattle.read_grammar.proofs.roots.opening_of.Goals as goal

pub returns-in-Brace : goal.returns-in-Brace
returns-in-Brace c = search openings

pub returns-in-Bracket : goal.returns-in-Bracket
returns-in-Bracket c = search openings

pub returns-in-Dollar : goal.returns-in-Dollar
returns-in-Dollar c = search openings

pub returns-in-Scalar : goal.returns-in-Scalar
returns-in-Scalar c = search openings

pub returns-in-Nothing : goal.returns-in-Nothing
returns-in-Nothing c = search openings
