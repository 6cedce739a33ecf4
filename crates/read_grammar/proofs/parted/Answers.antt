use Rattle.read_grammar.proofs.Places.{partings}
use Rattle.read_grammar.proofs.parted.Goals as goal

pub returns-then-b-eq-COMMA : goal.returns-then-b-eq-COMMA
returns-then-b-eq-COMMA c = search partings

pub returns-then-b-eq-NONE : goal.returns-then-b-eq-NONE
returns-then-b-eq-NONE c = search partings

pub returns-then-b-closing : goal.returns-then-b-closing
returns-then-b-closing c = search partings

pub returns-then-newline : goal.returns-then-newline
returns-then-newline c = search partings

pub returns : goal.returns
returns c = search partings
