use Rattle.sheet_forms.proofs.Forms.{counted-laws}
use Rattle.sheet_forms.proofs.counted_record.Goals as goal

pub returns-then-len-p-lt-HEAD : goal.returns-then-len-p-lt-HEAD
returns-then-len-p-lt-HEAD c = search counted-laws

pub returns : goal.returns
returns c = search counted-laws
