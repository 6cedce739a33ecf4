use Rattle.read_grammar.proofs.Places.{values}
use Rattle.read_grammar.proofs.value_place.Goals as goal

pub returns-then-b-eq-COLON : goal.returns-then-b-eq-COLON
returns-then-b-eq-COLON c = search values

pub returns-then-b-eq-EQUALS : goal.returns-then-b-eq-EQUALS
returns-then-b-eq-EQUALS c = search values

pub returns-then-b-eq-OPEN_BRACE : goal.returns-then-b-eq-OPEN_BRACE
returns-then-b-eq-OPEN_BRACE c = search values

pub returns : goal.returns
returns c = search values
