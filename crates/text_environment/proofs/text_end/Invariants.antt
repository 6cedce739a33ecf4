use Rattle.text_environment.proofs.Ends.{Texting}
use Rattle.text_environment.proofs.text_end.Given as goal

abbrev pub invariant-loop-p : goal.invariant-loop-p
invariant-loop-p l = Texting l.env l.fn.at.0 l.p
