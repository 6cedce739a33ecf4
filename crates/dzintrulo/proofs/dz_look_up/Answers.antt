use Rattle.dzintrulo.proofs.Answers.{packed-answer, packable-answer}
use Rattle.dzintrulo.proofs.dz_look_up.Goals as goal

pub pack-requires : goal.pack-requires
pack-requires c = search packable-answer

pub returns : goal.returns
returns c = search packed-answer
