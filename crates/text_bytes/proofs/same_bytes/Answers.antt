use Rattle.text_bytes.proofs.Sames.{same-slices}
use Rattle.text_bytes.proofs.same_bytes.Goals as goal

pub returns : goal.returns
returns c = search same-slices
