use Rattle.dzintrulo.proofs.Verdicts.{verdicts}
use Rattle.dzintrulo.proofs.dz_check.Goals as goal

pub pack_verdict-requires : goal.pack_verdict-requires
pack_verdict-requires c = search verdicts

pub returns : goal.returns
returns c = search verdicts
