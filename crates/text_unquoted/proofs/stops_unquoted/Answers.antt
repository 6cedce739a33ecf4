use Rattle.text_unquoted.proofs.Stops.{stops}
use Rattle.text_unquoted.proofs.stops_unquoted.Goals as goal

pub returns-then-is_plain : goal.returns-then-is_plain
returns-then-is_plain c = search stops

pub returns-then-ch-eq-NO_CHARACTER : goal.returns-then-ch-eq-NO_CHARACTER
returns-then-ch-eq-NO_CHARACTER c = search stops

pub returns-then-is_space : goal.returns-then-is_space
returns-then-is_space c = search stops

pub returns-then-is_forbidden : goal.returns-then-is_forbidden
returns-then-is_forbidden c = search stops

pub returns : goal.returns
returns c = search stops
