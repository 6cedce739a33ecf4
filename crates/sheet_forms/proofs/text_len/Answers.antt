use Rattle.sheet_forms.proofs.Forms.{text-len-laws}
use Rattle.sheet_forms.proofs.text_len.Goals as goal

pub returns-in-Five : goal.returns-in-Five
returns-in-Five c = search text-len-laws
