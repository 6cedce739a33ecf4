use Rattle.text_bytes.proofs.Texts.{equals}
use Rattle.text_bytes.proofs.same_text.Goals as goal

pub returns-then-n-eq0 : goal.returns-then-n-eq0
returns-then-n-eq0 c = search equals

pub returns : goal.returns
returns c = search equals
