use Rattle.eval_substitutions.proofs.keys.Elements.{KeysInv}
use Rattle.eval_substitutions.proofs.keys.path_keys.Given as goal

abbrev pub invariant-loop-i : goal.invariant-loop-i
invariant-loop-i l = KeysInv l.texts l.table l.route l.initial.keys l.keys l.i
