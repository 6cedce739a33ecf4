use Rattle.read_values.proofs.fields.Putting.{Putting}
use Rattle.read_values.proofs.fields.put_fields.Given as goal

abbrev pub invariant-loop-j : goal.invariant-loop-j
invariant-loop-j l = Putting l.marks l.initial.table l.table l.count l.size l.base.0 l.kind l.text.0 l.textlen.0 l.j l.from.0
