use Rattle.dzintrulo.proofs.Answers.{packed-length}
use Rattle.dzintrulo.proofs.dz_length.Goals as goal

pub returns : goal.returns
returns c = search packed-length
