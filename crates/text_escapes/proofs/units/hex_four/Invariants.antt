use Rattle.text_escapes.proofs.Digits.{HexLoop}
use Rattle.text_escapes.proofs.units.hex_four.Given as goal

abbrev pub invariant-loop-turn : goal.invariant-loop-turn
invariant-loop-turn l = HexLoop l.s l.first.0 l.initial.at.at.0 l.at.at.0 l.unit l.turn
