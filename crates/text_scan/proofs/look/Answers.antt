use Rattle.text_scan.specs.Looks.{seen_at}
use Rattle.text_scan.proofs.look.Goals as goal

pub returns : goal.returns
returns c = search seen_at
