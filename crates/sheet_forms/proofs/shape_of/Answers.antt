use Rattle.sheet_forms.proofs.Forms.{shape-laws}
use Rattle.sheet_forms.proofs.shape_of.Goals as goal

pub returns-then-kind-lt-NUMBER : goal.returns-then-kind-lt-NUMBER
returns-then-kind-lt-NUMBER c = search shape-laws

pub returns-then-kind-lt-ARRAY : goal.returns-then-kind-lt-ARRAY
returns-then-kind-lt-ARRAY c = search shape-laws

pub returns-then-kind-lt-KEY : goal.returns-then-kind-lt-KEY
returns-then-kind-lt-KEY c = search shape-laws

pub returns-then-kind-eq-KEY : goal.returns-then-kind-eq-KEY
returns-then-kind-eq-KEY c = search shape-laws

pub returns : goal.returns
returns c = search shape-laws
