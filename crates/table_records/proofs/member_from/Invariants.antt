use Rattle.table_records.proofs.Laws.{Seeking}
use Rattle.table_records.proofs.member_from.Given as goal

abbrev pub invariant-loop : goal.invariant-loop
invariant-loop l = Seeking l.table l.text l.key l.count l.initial.here.0 l.counter l.here.0
