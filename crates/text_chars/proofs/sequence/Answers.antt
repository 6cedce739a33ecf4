use Rattle.text_chars.proofs.Utf8.{sequences}
use Rattle.text_chars.proofs.sequence.Goals as goal

pub returns-then-n-lt2 : goal.returns-then-n-lt2
returns-then-n-lt2 c = search sequences

pub returns-then-second-least : goal.returns-then-second-least
returns-then-second-least c = search sequences

pub returns-then-greatest-second : goal.returns-then-greatest-second
returns-then-greatest-second c = search sequences

pub returns-then-n-eq2 : goal.returns-then-n-eq2
returns-then-n-eq2 c = search sequences

pub returns-then-n-eq3 : goal.returns-then-n-eq3
returns-then-n-eq3 c = search sequences

pub returns-then-is_continuation-2 : goal.returns-then-is_continuation-2
returns-then-is_continuation-2 c = search sequences

pub returns-else-is_continuation-2 : goal.returns-else-is_continuation-2
returns-else-is_continuation-2 c = search sequences

pub returns-else-is_continuation : goal.returns-else-is_continuation
returns-else-is_continuation c = search sequences
