use Rattle.sheet_forms.proofs.Forms.{members-are}
use Rattle.sheet_forms.proofs.count_members.Goals as goal

pub returns : goal.returns
returns c = search members-are
