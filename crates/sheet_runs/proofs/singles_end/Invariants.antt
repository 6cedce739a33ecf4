use Rattle.sheet_runs.specs.Clauses.{RunIs}
use Rattle.sheet_runs.proofs.singles_end.Given as goal

abbrev pub invariant-loop : goal.invariant-loop
invariant-loop l = RunIs l.s l.at l.end l.p
