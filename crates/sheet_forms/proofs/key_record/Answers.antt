use Rattle.sheet_forms.proofs.Forms.{key_laws}
use Rattle.sheet_forms.proofs.key_record.Goals as goal

pub returns-then-len-p-lt-WORD : goal.returns-then-len-p-lt-WORD
returns-then-len-p-lt-WORD c = search key_laws

pub returns : goal.returns
returns c = search key_laws
