use Rattle.text_chars.specs.Cursor.{cur}
use Rattle.text_scan.specs.Scan.{BlanksIs}
use Rattle.text_scan.proofs.after_blanks.Given as goal

abbrev pub invariant-loop-p : goal.invariant-loop-p
invariant-loop-p l = BlanksIs l.s l.initial.p (cur l.p)
