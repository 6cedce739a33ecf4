use Rattle.sheet_forms.proofs.Forms.{byte-out}
use Rattle.sheet_forms.proofs.kind_at.Goals as goal

pub returns : goal.returns
returns c = search byte-out
