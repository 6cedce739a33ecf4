use Rattle.rules.specs.Pieces.{unquoted_end}
use Rattle.text_chars.specs.Cursor.{cur}
use Rattle.text_scan.specs.Walks.{Going}
use Rattle.text_unquoted.proofs.plain_run.Given as goal

abbrev pub invariant-loop-p : goal.invariant-loop-p
invariant-loop-p l = Going unquoted_end l.s l.initial.p (cur l.p)
