use Rattle.text_unquoted.proofs.Stops.{simples}
use Rattle.text_unquoted.proofs.starts_simple.Goals as goal

pub returns-then-look-eq-QUOTE : goal.returns-then-look-eq-QUOTE
returns-then-look-eq-QUOTE c = search simples

pub returns : goal.returns
returns c = search simples
