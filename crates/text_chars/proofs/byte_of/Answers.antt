use Rattle.text_chars.proofs.Utf8.{bytes}
use Rattle.text_chars.proofs.byte_of.Goals as goal

pub returns-then-at-s : goal.returns-then-at-s
returns-then-at-s c = search bytes

pub returns-else-at-s : goal.returns-else-at-s
returns-else-at-s c = search bytes
