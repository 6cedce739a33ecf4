use Rattle.sheet_forms.proofs.Forms.{size-laws}
use Rattle.sheet_forms.proofs.size_of.Goals as goal

pub returns-in-Five : goal.returns-in-Five
returns-in-Five c = search size-laws
