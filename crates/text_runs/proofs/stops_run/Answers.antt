use Rattle.text_runs.proofs.Runs.{stopping}
use Rattle.text_runs.proofs.stops_run.Goals as goal

pub returns-then-b-least : goal.returns-then-b-least
returns-then-b-least c = search stopping

pub returns-then-b-eq-QUOTE : goal.returns-then-b-eq-QUOTE
returns-then-b-eq-QUOTE c = search stopping

pub returns : goal.returns
returns c = search stopping
