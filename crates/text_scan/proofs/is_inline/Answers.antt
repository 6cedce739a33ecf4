use Rattle.text_scan.proofs.Spaces.{inlines}
use Rattle.text_scan.proofs.is_inline.Goals as goal

pub returns-then-is_space : goal.returns-then-is_space
returns-then-is_space c = search inlines

pub returns : goal.returns
returns c = search inlines
