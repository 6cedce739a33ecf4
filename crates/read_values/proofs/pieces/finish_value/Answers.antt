use Rattle.read_values.proofs.pieces.Endings.{finishes}
use Rattle.read_values.proofs.pieces.finish_value.Goals as goal

pub returns-then-simple : goal.returns-then-simple
returns-then-simple c = search finishes

pub returns-in-Nothing : goal.returns-in-Nothing
returns-in-Nothing c = search finishes

pub returns-in-Mixed : goal.returns-in-Mixed
returns-in-Mixed c = search finishes

pub returns-else-simple : goal.returns-else-simple
returns-else-simple c = search finishes
