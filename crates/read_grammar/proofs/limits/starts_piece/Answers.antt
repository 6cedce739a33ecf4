use Rattle.read_grammar.proofs.limits.Beginnings.{starting}
use Rattle.read_grammar.proofs.limits.starts_piece.Goals as goal

pub returns-in-Nothing : goal.returns-in-Nothing
returns-in-Nothing c = search starting

pub returns-in-Dollar : goal.returns-in-Dollar
returns-in-Dollar c = search starting

pub returns-in-Scalar : goal.returns-in-Scalar
returns-in-Scalar c = search starting

pub returns-in-Brace : goal.returns-in-Brace
returns-in-Brace c = search starting

pub returns-in-Bracket : goal.returns-in-Bracket
returns-in-Bracket c = search starting
