use Rattle.eval_look_back.proofs.Keys.{Among}
use Rattle.eval_look_back.proofs.has_key.Given as goal

abbrev pub invariant-loop-element : goal.invariant-loop-element
invariant-loop-element l = Among l.keys l.count l.key l.element
