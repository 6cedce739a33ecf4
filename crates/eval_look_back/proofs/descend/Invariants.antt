use Rattle.eval_look_back.specs.Clauses.{Going}
use Rattle.eval_look_back.proofs.descend.Given as goal

abbrev pub invariant-loop-i : goal.invariant-loop-i
invariant-loop-i l = Going l.table l.keys l.count l.item l.literal l.i
