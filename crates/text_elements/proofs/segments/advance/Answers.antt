use Rattle.text_elements.proofs.segments.Advancing.{advances-so}
use Rattle.text_elements.proofs.segments.advance.Goals as goal

pub returns : goal.returns
returns c = search advances-so
