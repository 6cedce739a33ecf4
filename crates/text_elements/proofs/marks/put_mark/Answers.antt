use Rattle.text_elements.proofs.marks.Marking.{marks-kept}
use native.Mathlib.Omega.{arith}
use lib.ListN.{length-set}
use Rattle.text_elements.proofs.marks.put_mark.Goals as goal

pub bounds-marks-n-then-n-lt-MARKED : goal.bounds-marks-n-then-n-lt-MARKED
bounds-marks-n-then-n-lt-MARKED c = simp length-set (omega arith)

pub returns-then-n-lt-MARKED : goal.returns-then-n-lt-MARKED
returns-then-n-lt-MARKED c = search marks-kept

pub returns-else-n-lt-MARKED : goal.returns-else-n-lt-MARKED
returns-else-n-lt-MARKED c = search marks-kept
