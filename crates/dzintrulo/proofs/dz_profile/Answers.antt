use Rattle.dzintrulo.proofs.Answers.{packable-profile, packed-profile}
use Rattle.dzintrulo.proofs.dz_profile.Goals as goal

pub pack_profile-requires : goal.pack_profile-requires
pack_profile-requires c = search packable-profile

pub returns : goal.returns
returns c = search packed-profile
