use Rattle.text_chars.proofs.Utf8.{continuations}
use Rattle.text_chars.proofs.is_continuation.Goals as goal

pub returns-then-b-lt128 : goal.returns-then-b-lt128
returns-then-b-lt128 c = search continuations

pub returns : goal.returns
returns c = search continuations
