use Rattle.sheet_forms.proofs.Forms.{text-laws}
use Rattle.sheet_forms.proofs.text_record.Goals as goal

pub returns-then-len-p-lt-WORD : goal.returns-then-len-p-lt-WORD
returns-then-len-p-lt-WORD c = search text-laws

pub returns : goal.returns
returns c = search text-laws
