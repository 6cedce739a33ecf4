use Rattle.sheet_forms.proofs.Forms.{end-laws}
use Rattle.sheet_forms.proofs.record_end.Goals as goal

pub returns-in-Plain : goal.returns-in-Plain
returns-in-Plain c = search end-laws

pub returns-in-Word : goal.returns-in-Word
returns-in-Word c = search end-laws

pub returns-in-Key : goal.returns-in-Key
returns-in-Key c = search end-laws

pub returns-in-Head : goal.returns-in-Head
returns-in-Head c = search end-laws
