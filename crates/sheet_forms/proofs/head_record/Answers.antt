use Rattle.sheet_forms.proofs.Forms.{head-laws}
use Rattle.sheet_forms.proofs.head_record.Goals as goal

pub returns-then-len-p-lt-HEAD : goal.returns-then-len-p-lt-HEAD
returns-then-len-p-lt-HEAD c = search head-laws

pub returns : goal.returns
returns c = search head-laws
