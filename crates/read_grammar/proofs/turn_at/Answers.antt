use Rattle.read_grammar.proofs.Starts.{turns}
use Rattle.read_grammar.proofs.turn_at.Goals as goal

pub returns-then-b-closing : goal.returns-then-b-closing
returns-then-b-closing c = search turns

pub returns-then-b-eq-NONE : goal.returns-then-b-eq-NONE
returns-then-b-eq-NONE c = search turns

pub returns : goal.returns
returns c = search turns
