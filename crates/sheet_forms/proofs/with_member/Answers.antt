use Rattle.sheet_forms.proofs.Forms.{member-laws}
use Rattle.sheet_forms.proofs.with_member.Goals as goal

pub returns-then-kind-eq-KEY : goal.returns-then-kind-eq-KEY
returns-then-kind-eq-KEY c = search member-laws

pub returns : goal.returns
returns c = search member-laws
