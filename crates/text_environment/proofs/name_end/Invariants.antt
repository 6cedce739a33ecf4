use Rattle.text_environment.proofs.Ends.{Naming}
use Rattle.text_environment.proofs.name_end.Given as goal

abbrev pub invariant-loop-p : goal.invariant-loop-p
invariant-loop-p l = Naming l.env l.fn.at.0 l.p
