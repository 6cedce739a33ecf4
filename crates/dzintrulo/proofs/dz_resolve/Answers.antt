use Rattle.dzintrulo.proofs.Resolutions.{resolutions}
use Rattle.dzintrulo.proofs.dz_resolve.Goals as goal

pub pack_resolution-requires : goal.pack_resolution-requires
pack_resolution-requires c = search resolutions

pub returns : goal.returns
returns c = search resolutions
