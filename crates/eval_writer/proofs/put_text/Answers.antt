use Rattle.eval_writer.proofs.Words.{text-laws}
use Rattle.eval_writer.proofs.put_text.Goals as goal

pub returns-then-t-len-le-TEXT : goal.returns-then-t-len-le-TEXT
returns-then-t-len-le-TEXT c = search text-laws

pub returns-else-t-len-le-TEXT : goal.returns-else-t-len-le-TEXT
returns-else-t-len-le-TEXT c = search text-laws

pub returns-else-f-len : goal.returns-else-f-len
returns-else-f-len c = search text-laws
