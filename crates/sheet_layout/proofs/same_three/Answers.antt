use Rattle.sheet_layout.proofs.Records.{same-three-laws}
use Rattle.sheet_layout.proofs.same_three.Goals as goal

pub returns-then-part-p : goal.returns-then-part-p
returns-then-part-p c = search same-three-laws

pub returns-then-part-p-2 : goal.returns-then-part-p-2
returns-then-part-p-2 c = search same-three-laws

pub returns : goal.returns
returns c = search same-three-laws
