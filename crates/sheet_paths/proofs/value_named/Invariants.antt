use Rattle.sheet_paths.proofs.Steps.{Walking}
use Rattle.sheet_paths.proofs.value_named.Given as goal

abbrev pub invariant-loop-i : goal.invariant-loop-i
invariant-loop-i l = Walking l.table l.text l.names l.marks l.count l.at.0 l.from.0 l.i
