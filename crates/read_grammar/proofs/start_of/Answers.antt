use Rattle.read_grammar.proofs.Starts.{starts}
use Rattle.read_grammar.proofs.start_of.Goals as goal

pub returns-then-b-eq-OPEN_BRACE : goal.returns-then-b-eq-OPEN_BRACE
returns-then-b-eq-OPEN_BRACE c = search starts

pub returns-then-b-eq-OPEN_BRACKET : goal.returns-then-b-eq-OPEN_BRACKET
returns-then-b-eq-OPEN_BRACKET c = search starts

pub returns-then-second-eq-OPEN_BRACE : goal.returns-then-second-eq-OPEN_BRACE
returns-then-second-eq-OPEN_BRACE c = search starts

pub returns-then-b-eq-DOLLAR : goal.returns-then-b-eq-DOLLAR
returns-then-b-eq-DOLLAR c = search starts

pub returns-then-starts_simple : goal.returns-then-starts_simple
returns-then-starts_simple c = search starts

pub returns : goal.returns
returns c = search starts
