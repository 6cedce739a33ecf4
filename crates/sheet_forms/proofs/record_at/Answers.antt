use Rattle.sheet_forms.proofs.Forms.{record-laws}
use Rattle.sheet_forms.proofs.record_at.Goals as goal

pub returns-then-len-p : goal.returns-then-len-p
returns-then-len-p c = search record-laws

pub returns-in-Plain : goal.returns-in-Plain
returns-in-Plain c = search record-laws

pub returns-in-Kept : goal.returns-in-Kept
returns-in-Kept c = search record-laws

pub returns-in-Public : goal.returns-in-Public
returns-in-Public c = search record-laws

pub returns-in-Word : goal.returns-in-Word
returns-in-Word c = search record-laws

pub returns-in-Kept-form : goal.returns-in-Kept-form
returns-in-Kept-form c = search record-laws

pub returns-in-Public-form : goal.returns-in-Public-form
returns-in-Public-form c = search record-laws
