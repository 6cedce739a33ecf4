use Rattle.text_runs.specs.Clauses.{RunIs}
use Rattle.text_runs.proofs.run_end.Given as goal

abbrev pub invariant-loop : goal.invariant-loop
invariant-loop l = RunIs l.least l.other l.s l.initial.at.at.0 l.at
