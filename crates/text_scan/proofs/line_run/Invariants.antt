use Rattle.rules.specs.Characters.{line_end}
use Rattle.text_chars.specs.Cursor.{cur}
use Rattle.text_scan.specs.Walks.{Going}
use Rattle.text_scan.proofs.line_run.Given as goal

abbrev pub invariant-loop-p : goal.invariant-loop-p
invariant-loop-p l = Going line_end l.s l.initial.p (cur l.p)
