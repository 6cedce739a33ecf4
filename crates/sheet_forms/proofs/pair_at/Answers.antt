use Rattle.sheet_forms.proofs.Forms.{pair_is}
use Rattle.sheet_forms.proofs.pair_at.Goals as goal

pub returns : goal.returns
returns c = search pair_is
