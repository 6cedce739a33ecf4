use Rattle.eval_concat.proofs.scalar.Scalars.{word_laws}
use Rattle.eval_concat.proofs.scalar.join_word.Goals as goal

pub returns-then-bytes-e : goal.returns-then-bytes-e
returns-then-bytes-e c = search word_laws

pub returns : goal.returns
returns c = search word_laws
