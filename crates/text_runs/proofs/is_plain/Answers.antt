use Rattle.text_runs.proofs.Runs.{plains}
use Rattle.text_runs.proofs.is_plain.Goals as goal

pub returns-then-b-ge-NOT_ASCII : goal.returns-then-b-ge-NOT_ASCII
returns-then-b-ge-NOT_ASCII c = search plains

pub returns : goal.returns
returns c = search plains
