use Rattle.text_runs.proofs.Runs.{ones}
use Rattle.text_runs.proofs.pass_one.Goals as goal

pub returns-then-s-p : goal.returns-then-s-p
returns-then-s-p c = search ones

pub returns-then-stops_run : goal.returns-then-stops_run
returns-then-stops_run c = search ones

pub returns-then-b-lt-NOT_ASCII : goal.returns-then-b-lt-NOT_ASCII
returns-then-b-lt-NOT_ASCII c = search ones

pub returns-in_err-step : goal.returns-in_err-step
returns-in_err-step c = search (ones, c.from_residual.ensures)

pub returns : goal.returns
returns c = search (ones, c.in_ok-step.was)
