use Rattle.sheet_layout.proofs.Records.{same-five-laws}
use Rattle.sheet_layout.proofs.same_five.Goals as goal

pub returns-then-part-p : goal.returns-then-part-p
returns-then-part-p c = search same-five-laws

pub returns-then-same_three : goal.returns-then-same_three
returns-then-same_three c = search same-five-laws

pub returns : goal.returns
returns c = search same-five-laws
