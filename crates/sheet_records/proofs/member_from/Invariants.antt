use Rattle.sheet_records.proofs.Keys.{Looking}
use Rattle.sheet_records.proofs.member_from.Given as goal

abbrev pub invariant-loop : goal.invariant-loop
invariant-loop l = Looking l.table l.text l.key l.count l.initial.here.0 l.counter l.here.0
